-- Under a vertex off the lines that lead up from an edit stands what stood there before, where no class under it changes.
use Rattle.std.proofs.Common.{◌≡◌, Bool, true, false, List, [], ◌∷◌, refl, sym, ap, subst, ◌∙◌}
use Rattle.std.specs.List.{AllByRecursion}
use Rattle.grove_edits.specs.declared.vertex.Vertex.{Vertex}
use Rattle.grove_edits.specs.declared.edge.Edge.{Edge}
use Rattle.graph_words.specs.declared.class.Class.TheVariants.{Inner}
use Rattle.graph_words.specs.Live.{holds_edge}
use Rattle.grove_edits.specs.Vertex.{is_same_vertex}
use Rattle.graph_words.specs.Class.{class}
use Rattle.grove_edits.proofs.Vertices.{same_vertex_exact}
use Rattle.grove_terms.specs.Forest.{Forest, none, multi_ref, cycle_ref, tree, child_edges, edges_under, AreChildren, StandsUnder}
use Rattle.grove_terms.proofs.InLive.{IsFrom, under_lead}
use Rattle.kept_records.specs.Change.{Changes}
use Rattle.grove_sorts.proofs.Truths.{not_both}
use Rattle.kept_records.proofs.Edits.{under_stay}

-- some vertices, among them the source of the edge: with an inner vertex the one above it is among them, and what others see keeps its class
module _ (e : Edge) (old new : List Edge) (change : Changes e old new) (on : Vertex → Bool) (source_on : on e.source ≡ true)
    (closed : (d : Edge) → holds_edge d new ≡ true → class new d.target ≡ Inner → on d.target ≡ true → on d.source ≡ true)
    (seen : (d : Edge) → holds_edge d old ≡ true → holds_edge d new ≡ true → on d.source ≡ false → class old d.target ≡ class new d.target) where
  pub not_source : (v : Vertex) → on v ≡ false → is_same_vertex e.source v ≡ false
  not_source v off = by_test (is_same_vertex e.source v) refl where
    by_test : (b : Bool) → is_same_vertex e.source v ≡ b → is_same_vertex e.source v ≡ false
    by_test true same = absurd (not_both (on v) (ap on (sym (same_vertex_exact e.source v same)) ∙ source_on) off)
    by_test false other = other

  -- an edge in both graphs, from a vertex that is not among them
  record IsOff (d : Edge) : Type 0 where
    held_old : holds_edge d old ≡ true
    held_new : holds_edge d new ≡ true
    off : on d.source ≡ false

  all_off : (v : Vertex) (es : List Edge) → on v ≡ false → AllByRecursion (IsFrom old v) es → AllByRecursion (IsFrom new v) es → AllByRecursion IsOff es
  all_off v [] off in_old in_new = tt
  all_off v (d ∷ es) off in_old in_new =
      (record { held_old = in_old.0.held; held_new = in_new.0.held; off = ap on in_new.0.source ∙ off }, all_off v es off in_old.1 in_new.1)

  off_under : (v : Vertex) → on v ≡ false → AllByRecursion IsOff (edges_under new v)
  off_under v off =
      all_off v (edges_under new v) off
      (subst (AllByRecursion (IsFrom old v)) (under_stay e old new change v (not_source v off)) (under_lead old v)) (under_lead new v)

  target_off : (d : Edge) → IsOff d → class new d.target ≡ Inner → on d.target ≡ false
  target_off d off inner = by_test (on d.target) refl where
    by_test : (b : Bool) → on d.target ≡ b → on d.target ≡ false
    by_test true is = absurd (not_both (on d.source) (closed d off.held_new inner is) off.off)
    by_test false is = is

  class_below : (d : Edge) → IsOff d → class old d.target ≡ class new d.target
  class_below d off = seen d off.held_old off.held_new off.off

  children_as_before : (f : Forest) → AllByRecursion IsOff (child_edges f) → AreChildren new f → AreChildren old f
  children_as_before none off are = tt
  children_as_before (multi_ref d rest) off are = (class_below d off.0 ∙ are.0, children_as_before rest off.1 are.1)
  children_as_before (cycle_ref d rest) off are = (class_below d off.0 ∙ are.0, children_as_before rest off.1 are.1)
  children_as_before (tree d below rest) off are =
      let there = target_off d off.0 are.0 in (
        class_below d off.0 ∙ are.0,
        are.1 ∙ sym (under_stay e old new change d.target (not_source d.target there)),
        children_as_before below (subst (AllByRecursion IsOff) (sym are.1) (off_under d.target there)) are.2,
        children_as_before rest off.1 are.3,
      )

  -- what stands under a vertex that is not among them stood under it before
  pub stood_under : (v : Vertex) (f : Forest) → on v ≡ false → StandsUnder new v f → StandsUnder old v f
  stood_under v f off stands = record {
    edges = stands.edges ∙ sym (under_stay e old new change v (not_source v off));
    children = children_as_before f (subst (AllByRecursion IsOff) (sym stands.edges) (off_under v off)) stands.children;
  }
