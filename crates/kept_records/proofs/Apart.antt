-- A tree that an edit does not concern stands in the one graph as in the other.
use Rattle.std.proofs.Common.{◌≡◌, ◌⊎◌, inl, inr, Bool, true, false, List, [], ◌∷◌, refl, sym, ap, subst, ◌∙◌}
use Rattle.std.specs.List.{AllByRecursion}
use Rattle.grove_edits.specs.declared.vertex.Vertex.{Vertex}
use Rattle.grove_edits.specs.declared.edge.Edge.{Edge}
use Rattle.grove_edits.specs.Edge.{IsWellFormed}
use Rattle.graph_words.specs.declared.class.Class.{Class}
use Rattle.graph_words.specs.declared.class.Class.TheVariants.{NoParent, Multi, Cycle, Inner}
use Rattle.graph_words.specs.Live.{holds_edge}
use Rattle.grove_edits.specs.Vertex.{is_same_vertex}
use Rattle.graph_words.specs.Class.{class, is_cycle_root}
use Rattle.grove_edits.proofs.Vertices.{same_vertex_exact}
use Rattle.grove_terms.specs.declared.node.Node.{Node}
use Rattle.grove_terms.specs.Forest.{Forest, none, multi_ref, cycle_ref, tree, child_edges, edges_under, AreChildren, StandsUnder}
use Rattle.grove_terms.specs.Grove.{IsTreeOf}
use Rattle.grove_terms.proofs.InLive.{IsFrom, under_lead}
use Rattle.mark_step.specs.Expression.{Demanded}
use Rattle.kept_records.specs.Kept.{alone, expression_of, demanded_at, IsTreeIn, Stands}
use Rattle.kept_records.specs.Change.{Changes, top_of, StandsIn, IsConcerned, is_target, is_root, holds_source, holds_parent, refers_to_root}
use Rattle.kept_records.proofs.Standing.{child_stands}
use Rattle.kept_records.proofs.Edits.{under_stay, class_stays}

pub class_or : (a b : Class) → (a ≡ b) ⊎ (a ≡ b → ⊥)
class_or NoParent NoParent = inl refl
class_or NoParent Multi = inr (λ e. cc)
class_or NoParent Cycle = inr (λ e. cc)
class_or NoParent Inner = inr (λ e. cc)
class_or Multi NoParent = inr (λ e. cc)
class_or Multi Multi = inl refl
class_or Multi Cycle = inr (λ e. cc)
class_or Multi Inner = inr (λ e. cc)
class_or Cycle NoParent = inr (λ e. cc)
class_or Cycle Multi = inr (λ e. cc)
class_or Cycle Cycle = inl refl
class_or Cycle Inner = inr (λ e. cc)
class_or Inner NoParent = inr (λ e. cc)
class_or Inner Multi = inr (λ e. cc)
class_or Inner Cycle = inr (λ e. cc)
class_or Inner Inner = inl refl

test_or : (a b : Bool) → (a ≡ b) ⊎ (a ≡ b → ⊥)
test_or true true = inl refl
test_or true false = inr (λ e. cc)
test_or false true = inr (λ e. cc)
test_or false false = inl refl

-- the live edges from a vertex that stands in the tree
record IsWithin (live : List Edge) (head : Vertex) (d : Edge) : Type 0 where
  held : holds_edge d live ≡ true
  inside : StandsIn live head d.source

module _ (e : Edge) (old new : List Edge) (change : Changes e old new) (well : AllByRecursion IsWellFormed new)
    (head : Vertex) (apart : IsConcerned e old new new head → ⊥) where
  head_keeps_class : class old head ≡ class new head
  head_keeps_class = by_test (is_same_vertex e.target head) refl where
    by_root : is_same_vertex e.target head ≡ false → (is_cycle_root old head ≡ is_cycle_root new head) ⊎ (is_cycle_root old head ≡ is_cycle_root new head → ⊥) → class old head ≡ class new head
    by_root other (inl stays) = class_stays e old new change head other stays
    by_root other (inr moves) = absurd (apart (is_root moves))

    by_test : (b : Bool) → is_same_vertex e.target head ≡ b → class old head ≡ class new head
    by_test true same = by_class (same_vertex_exact e.target head same) (class_or (class old e.target) (class new e.target)) where
      by_class : e.target ≡ head → (class old e.target ≡ class new e.target) ⊎ (class old e.target ≡ class new e.target → ⊥) → class old head ≡ class new head
      by_class one (inl stays) = ap (class old) (sym one) ∙ stays ∙ ap (class new) one
      by_class one (inr moves) = absurd (apart (is_target (sym one) moves))
    by_test false other = by_root other (test_or (is_cycle_root old head) (is_cycle_root new head))

  target_keeps_class : (d : Edge) → IsWithin new head d → class old d.target ≡ class new d.target
  target_keeps_class d within = by_test (is_same_vertex e.target d.target) refl where
    by_root : is_same_vertex e.target d.target ≡ false → (is_cycle_root old d.target ≡ is_cycle_root new d.target) ⊎ (is_cycle_root old d.target ≡ is_cycle_root new d.target → ⊥) → class old d.target ≡ class new d.target
    by_root other (inl stays) = class_stays e old new change d.target other stays
    by_root other (inr moves) = absurd (apart (refers_to_root d within.held moves within.inside))

    by_class : e.target ≡ d.target → (class old e.target ≡ class new e.target) ⊎ (class old e.target ≡ class new e.target → ⊥) → class old d.target ≡ class new d.target
    by_class one (inl stays) = ap (class old) (sym one) ∙ stays ∙ ap (class new) one
    by_class one (inr moves) = absurd (apart (holds_parent d within.held (sym one) moves within.inside))

    by_test : (b : Bool) → is_same_vertex e.target d.target ≡ b → class old d.target ≡ class new d.target
    by_test true same = by_class (same_vertex_exact e.target d.target same) (class_or (class old e.target) (class new e.target))
    by_test false other = by_root other (test_or (is_cycle_root old d.target) (is_cycle_root new d.target))

  no_source : (us : List Vertex) (v : Vertex) (f : Forest) (d : Demanded) → Stands new us v f d → top_of v us ≡ head → is_same_vertex e.source v ≡ false
  no_source us v f d s top = by_test (is_same_vertex e.source v) refl where
    by_test : (b : Bool) → is_same_vertex e.source v ≡ b → is_same_vertex e.source v ≡ false
    by_test true same =
        let here : StandsIn new head v = record { above = us; forest = f; demanded = d; stands = s; top = top } in
        absurd (apart (holds_source (subst (StandsIn new head) (sym (same_vertex_exact e.source v same)) here)))
    by_test false other = other

  all_within : (us : List Vertex) (v : Vertex) (f : Forest) (d : Demanded) → Stands new us v f d → top_of v us ≡ head → (es : List Edge) → AllByRecursion (IsFrom new v) es → AllByRecursion (IsWithin new head) es
  all_within us v f d s top [] from = tt
  all_within us v f d s top (x ∷ xs) from =
      let here : StandsIn new head v = record { above = us; forest = f; demanded = d; stands = s; top = top } in
      (record { held = from.0.held; inside = subst (StandsIn new head) (sym from.0.source) here }, all_within us v f d s top xs from.1)

  -- some children of a vertex in the tree
  children_apart : (us : List Vertex) (v : Vertex) (f : Forest) (d : Demanded) → Stands new us v f d → top_of v us ≡ head
      → (some : Forest) → ((x : Edge) (b : Forest) → IsTreeIn some x b → IsTreeIn f x b) → AllByRecursion (IsWithin new head) (child_edges some) → AreChildren new some → AreChildren old some
  children_apart us v f d s top none among within are = tt
  children_apart us v f d s top (multi_ref x rest) among within are = (target_keeps_class x within.0 ∙ are.0, children_apart us v f d s top rest among within.1 are.1)
  children_apart us v f d s top (cycle_ref x rest) among within are = (target_keeps_class x within.0 ∙ are.0, children_apart us v f d s top rest among within.1 are.1)
  children_apart us v f d s top (tree x below rest) among within are =
      let there = child_stands new well v us f d s x below (among x below (inl (refl, refl))) in
      let demanded = demanded_at (expression_of v f d) f x.position in (
        target_keeps_class x within.0 ∙ are.0,
        are.1 ∙ sym (under_stay e old new change x.target (no_source (v ∷ us) x.target below demanded there top)),
        children_apart (v ∷ us) x.target below demanded there top below (λ y b is. is)
            (subst (AllByRecursion (IsWithin new head)) (sym are.1) (all_within (v ∷ us) x.target below demanded there top (edges_under new x.target) (under_lead new x.target))) are.2,
        children_apart us v f d s top rest (λ y b is. among y b (inr is)) within.1 are.3,
      )

  -- what stands under the head stands under it in the other graph
  stands_apart : (f : Forest) → (class new head ≡ Inner → ⊥) → StandsUnder new head f → StandsUnder old head f
  stands_apart f outer stands =
      let s : Stands new [] head f alone = (outer, stands, refl) in
      record {
        edges = stands.edges ∙ sym (under_stay e old new change head (no_source [] head f alone s refl));
        children = children_apart [] head f alone s refl f (λ y b is. is)
            (subst (AllByRecursion (IsWithin new head)) (sym stands.edges) (all_within [] head f alone s refl (edges_under new head) (under_lead new head))) stands.children;
      }

  -- a tree that heads no other and that the edit does not concern is in both graphs, in one class
  pub tree_apart : (nodes : List Node) → (class new head ≡ Inner → ⊥) → IsTreeOf new head nodes → (class old head ≡ class new head) × IsTreeOf old head nodes
  tree_apart nodes outer t = (head_keeps_class, record { forest = t.forest; stands = stands_apart t.forest outer t.stands; listed = t.listed })

  -- each vertex in the tree stood so before
  pub stood_apart : (us : List Vertex) (v : Vertex) (f : Forest) (d : Demanded) → AllByRecursion IsWellFormed old → Stands new us v f d → top_of v us ≡ head → Stands old us v f d
  stood_apart [] v f d well_old s top = (
    λ inner. s.0 (ap (class new) top ∙ sym head_keeps_class ∙ ap (class old) (sym top) ∙ inner),
    subst (λ x. StandsUnder old x f) (sym top) (stands_apart f (λ inner. s.0 (ap (class new) top ∙ inner)) (subst (λ x. StandsUnder new x f) top s.1)),
    s.2,
  )
  stood_apart (u ∷ us) v f d well_old s top =
      let up = stood_apart us u s.0 s.1 well_old s.2 top in
      (s.0, s.1, up, s.3)
