-- Under a root that heads a tree, only the root itself is the root of a cycle.
use Rattle.std.proofs.Common.{◌≡◌, suc, Bool, true, false, List, [], ◌∷◌, refl, sym, ap, ◌∙◌}
use Rattle.std.specs.Prelude.{◌||◌, Option, Some, None}
use Rattle.grove_edits.proofs.Orders.{one_edge}
use Rattle.grove_edits.specs.declared.vertex.Vertex.{Vertex}
use Rattle.grove_edits.specs.declared.edge.Edge.{Edge}
use Rattle.grove_edits.specs.Graph.{is_same_edge}
use Rattle.graph_words.specs.declared.class.Class.{Class}
use Rattle.graph_words.specs.declared.class.Class.TheVariants.{NoParent, Multi, Cycle, Inner}
use Rattle.graph_words.specs.Live.{holds_edge, parents_of}
use Rattle.graph_words.specs.Walk.{only_source, above}
use Rattle.graph_words.specs.Class.{is_cycle_root, class_by, class}
use Rattle.graph_words.proofs.Up.{up, next_above, up-shift}
use Rattle.graph_words.proofs.Cycles.{no_root_below_none, one_root}
use Rattle.grove_terms.specs.declared.node.What.TheVariants as whats
use Rattle.grove_terms.proofs.InLive.{stands_among, target_has_parent}
use Rattle.grove_decompose.specs.Tasks.{what_by, are_several, is_shared, IsUnder}

-- ---- what a child is

not_inner : (ps : List Edge) (b : Bool) (x : Vertex) → only_source ps ≡ Some x → (class_by ps b ≡ Inner → ⊥) → b ≡ true
not_inner [] b x is outer = absurd cc
not_inner (p ∷ []) true x is outer = refl
not_inner (p ∷ []) false x is outer = absurd (outer refl)
not_inner (p ∷ q ∷ ps) b x is outer = absurd cc

-- a vertex with one parent that heads a tree is the root of a cycle
head_is_root : (live : List Edge) (v x : Vertex) → above live v ≡ Some x → (class live v ≡ Inner → ⊥) → is_cycle_root live v ≡ true
head_is_root live v x is outer = not_inner (parents_of v live) (is_cycle_root live v) x is outer

root_of_tree : (live : List Edge) (t s r : Vertex) → (class live r ≡ Inner → ⊥) → IsUnder live r s → above live t ≡ Some s → is_cycle_root live t ≡ true → t ≡ r
root_of_tree live t s r outer under is root = by_next (above live r) refl where
  at : up live (suc under.steps) (Some t) ≡ Some r
  at = sym (up-shift live (Some t) under.steps) ∙ ap (up live under.steps) is ∙ under.leads

  by_next : (o : Option Vertex) → above live r ≡ o → t ≡ r
  by_next None none = absurd (no_root_below_none live t t (suc (suc under.steps)) root (0, refl) (ap (next_above live) at ∙ none))
  by_next (Some x) some = one_root live t t r root (head_is_root live r x some outer) (0, refl) (suc under.steps, at)

sole_by : (e : Edge) (ps : List Edge) → holds_edge e ps ≡ true → are_several ps ≡ false → only_source ps ≡ Some e.source
sole_by e [] held few = absurd cc
sole_by e (p ∷ []) held few = ap Some (ap (λ (y : Edge). y.source) (one_edge p e (only (is_same_edge p e) held))) where
  only : (a : Bool) → (a || false) ≡ true → a ≡ true
  only true h = refl
  only false h = absurd cc
sole_by e (p ∷ q ∷ ps) held few = absurd cc

multi_by : (ps : List Edge) (r : Bool) → are_several ps ≡ true → class_by ps r ≡ Multi
multi_by [] r several = absurd cc
multi_by (p ∷ []) r several = absurd cc
multi_by (p ∷ q ∷ ps) r several = refl

-- a child with two parents is a reference
pub what_of_shared : (live : List Edge) (t : Vertex) → is_shared t live ≡ true → whats.MultiRef t ≡ what_by (class live t) t
what_of_shared live t shared = ap (λ c. what_by c t) (sym (multi_by (parents_of t live) (is_cycle_root live t) shared))

cycle_by : (ps : List Edge) (x : Vertex) (r : Bool) → only_source ps ≡ Some x → r ≡ true → class_by ps r ≡ Cycle
cycle_by [] x r is root = absurd cc
cycle_by (p ∷ []) x true is root = refl
cycle_by (p ∷ []) x false is root = absurd cc
cycle_by (p ∷ q ∷ ps) x r is root = absurd cc

inner_by : (ps : List Edge) (x : Vertex) (r : Bool) → only_source ps ≡ Some x → r ≡ false → class_by ps r ≡ Inner
inner_by [] x r is root = absurd cc
inner_by (p ∷ []) x true is root = absurd cc
inner_by (p ∷ []) x false is root = refl
inner_by (p ∷ q ∷ ps) x r is root = absurd cc

sole_above : (live : List Edge) (e : Edge) → holds_edge e live ≡ true → is_shared e.target live ≡ false → above live e.target ≡ Some e.source
sole_above live e held alone = sole_by e (parents_of e.target live) (stands_among e live held) alone

-- a child with one parent that is the root is a reference to it
pub what_of_root : (live : List Edge) (e : Edge) (r : Vertex) → (class live r ≡ Inner → ⊥) → holds_edge e live ≡ true → is_shared e.target live ≡ false → e.target ≡ r
    → whats.CycleRef e.target ≡ what_by (class live e.target) e.target
what_of_root live e r outer held alone is =
    let up_is = sole_above live e held alone in
    let root = head_is_root live e.target e.source up_is (λ inner. outer (ap (class live) (sym is) ∙ inner)) in
    ap (λ c. what_by c e.target) (sym (cycle_by (parents_of e.target live) e.source (is_cycle_root live e.target) up_is root))

-- and any other one is inner
pub what_of_inner : (live : List Edge) (e : Edge) (r : Vertex) → (class live r ≡ Inner → ⊥) → IsUnder live r e.source → holds_edge e live ≡ true → is_shared e.target live ≡ false → (e.target ≡ r → ⊥)
    → whats.Vertex e.target ≡ what_by (class live e.target) e.target
what_of_inner live e r outer under held alone other =
    let up_is = sole_above live e held alone in
    let no_root : is_cycle_root live e.target ≡ false = false_from (is_cycle_root live e.target) (λ root. other (root_of_tree live e.target e.source r outer under up_is root)) in
    ap (λ c. what_by c e.target) (sym (inner_by (parents_of e.target live) e.source (is_cycle_root live e.target) up_is no_root)) where
      false_from : (b : Bool) → (b ≡ true → ⊥) → b ≡ false
      false_from true refuted = absurd (refuted refl)
      false_from false refuted = refl

not_none_inner : (c : Class) (t v : Vertex) → (c ≡ NoParent → ⊥) → what_by c t ≡ whats.Vertex v → c ≡ Inner
not_none_inner NoParent t v some is = absurd (some refl)
not_none_inner Multi t v some is = absurd cc
not_none_inner Cycle t v some is = absurd cc
not_none_inner Inner t v some is = refl

-- a child that is no reference is inner
pub inner_of_vertex : (live : List Edge) (e : Edge) (v w : Vertex) → holds_edge e live ≡ true → what_by (class live e.target) e.target ≡ whats.Vertex v → w ≡ e.target → class live w ≡ Inner
inner_of_vertex live e v w held is same = ap (class live) same ∙ not_none_inner (class live e.target) e.target v (target_has_parent live e held) is
