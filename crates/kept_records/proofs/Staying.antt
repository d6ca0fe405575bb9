-- After an edit that leaves the roots of cycles as they were, a vertex on none of the walks has under it what it had before.
use Rattle.std.proofs.Common.{◌≡◌, Bool, true, false, List, [], ◌∷◌, refl, sym, ap, ◌∙◌}
use Rattle.std.specs.Prelude.{Some}
use Rattle.grove_edits.specs.declared.vertex.Vertex.{Vertex}
use Rattle.grove_edits.specs.declared.edge.Edge.{Edge}
use Rattle.graph_words.specs.declared.class.Class.{Class}
use Rattle.graph_words.specs.declared.class.Class.TheVariants.{NoParent, Multi, Cycle, Inner}
use Rattle.graph_words.specs.Live.{holds_edge, parents_of}
use Rattle.grove_edits.specs.Vertex.{is_same_vertex}
use Rattle.graph_words.specs.Walk.{only_source, above}
use Rattle.graph_words.specs.Class.{class, class_by, is_cycle_root}
use Rattle.grove_edits.proofs.Vertices.{same_vertex_exact}
use Rattle.grove_terms.specs.Forest.{Forest, StandsUnder}
use Rattle.grove_terms.proofs.InLive.{stands_among, target_has_parent, above_target}
use Rattle.kept_records.specs.Change.{Changes, CyclesStay, is_on_walks}
use Rattle.kept_records.proofs.Children.{held_alone}
use Rattle.kept_records.proofs.Edits.{change_back, class_stays}
use Rattle.kept_records.proofs.Off as off
use Rattle.kept_records.proofs.OnWalks.{on_walks_back, source_on_walks, target_on_walks, above_on_walks}

one_above : (d : Edge) (ps : List Edge) (b : Bool) (c : Class) → holds_edge d ps ≡ true → class_by ps b ≡ c → (c ≡ Multi → ⊥) → only_source ps ≡ Some d.source
one_above d [] b c held is other = absurd cc
one_above d (p ∷ []) b c held is other = ap (λ (x : Edge). Some x.source) (held_alone p d held)
one_above d (p ∷ q ∷ ps) b c held is other = absurd (other (sym is))

-- where the target of a live edge has no other parent edge, the edge's source stands above it
pub above_unless_multi : (live : List Edge) (d : Edge) → holds_edge d live ≡ true → (class live d.target ≡ Multi → ⊥) → above live d.target ≡ Some d.source
above_unless_multi live d held other =
    one_above d (parents_of d.target live) (is_cycle_root live d.target) (class live d.target) (stands_among d live held) refl other

module _ (e : Edge) (old new : List Edge) (change : Changes e old new) where
  abbrev on : Vertex → Bool
  on v = is_on_walks e old new v

  closed_old : (x w : Vertex) → on x ≡ true → above old x ≡ Some w → on w ≡ true
  closed_old x w h up = on_walks_back e old new w ∙ above_on_walks e new old (change_back e old new change) x w (sym (on_walks_back e old new x) ∙ h) up

  clash : (b : Bool) → b ≡ true → b ≡ false → ⊥
  clash b yes_it not_it = let e : true ≡ false = sym yes_it ∙ not_it in cc

  pub not_target : (v : Vertex) → on v ≡ false → is_same_vertex e.target v ≡ false
  not_target v off = by_test (is_same_vertex e.target v) refl where
    by_test : (b : Bool) → is_same_vertex e.target v ≡ b → is_same_vertex e.target v ≡ false
    by_test true same = absurd (clash (on v) (ap on (sym (same_vertex_exact e.target v same)) ∙ target_on_walks e old new) off)
    by_test false other = other

  -- the target of the edit is shared where an edge leads to it from a vertex on none of the walks
  shared_old : (d : Edge) → holds_edge d old ≡ true → d.target ≡ e.target → on d.source ≡ false → class old d.target ≡ Multi
  shared_old d held one off = by_class (class old d.target) refl where
    unless : (class old d.target ≡ Multi → ⊥) → ⊥
    unless other =
        clash (on d.source) (closed_old d.target d.source (ap on one ∙ target_on_walks e old new) (above_unless_multi old d held other)) off

    by_class : (c : Class) → class old d.target ≡ c → class old d.target ≡ Multi
    by_class NoParent is = absurd (target_has_parent old d held is)
    by_class Multi is = is
    by_class Cycle is = absurd (unless (λ m. let x : Cycle ≡ Multi = sym is ∙ m in cc))
    by_class Inner is = absurd (unless (λ m. let x : Inner ≡ Multi = sym is ∙ m in cc))

  shared_new : (d : Edge) → holds_edge d new ≡ true → d.target ≡ e.target → on d.source ≡ false → class new d.target ≡ Multi
  shared_new d held one off = by_class (class new d.target) refl where
    unless : (class new d.target ≡ Multi → ⊥) → ⊥
    unless other =
        clash (on d.source) (above_on_walks e old new change d.target d.source (ap on one ∙ target_on_walks e old new) (above_unless_multi new d held other)) off

    by_class : (c : Class) → class new d.target ≡ c → class new d.target ≡ Multi
    by_class NoParent is = absurd (target_has_parent new d held is)
    by_class Multi is = is
    by_class Cycle is = absurd (unless (λ m. let x : Cycle ≡ Multi = sym is ∙ m in cc))
    by_class Inner is = absurd (unless (λ m. let x : Inner ≡ Multi = sym is ∙ m in cc))

  module _ (stay : CyclesStay old new) where
    seen : (d : Edge) → holds_edge d old ≡ true → holds_edge d new ≡ true → on d.source ≡ false → class old d.target ≡ class new d.target
    seen d held_old held_new off = by_test (is_same_vertex e.target d.target) refl where
      by_test : (b : Bool) → is_same_vertex e.target d.target ≡ b → class old d.target ≡ class new d.target
      by_test true same =
          let one : d.target ≡ e.target = sym (same_vertex_exact e.target d.target same) in
          shared_old d held_old one off ∙ sym (shared_new d held_new one off)
      by_test false other = class_stays e old new change d.target other (stay d.target)

    -- what stands under a vertex on none of the walks stood under it before
    pub stood_under : (v : Vertex) (f : Forest) → on v ≡ false → StandsUnder new v f → StandsUnder old v f
    stood_under =
        off.stood_under e old new change on (source_on_walks e old new)
        (λ d held inner is. above_on_walks e old new change d.target d.source is (above_target new d held inner)) seen

    pub class_as_before : (v : Vertex) → on v ≡ false → class old v ≡ class new v
    class_as_before v off = class_stays e old new change v (not_target v off) (stay v)
