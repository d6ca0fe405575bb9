-- Edges that stand in a list of live edges: their targets have parents, and those under a vertex lead from it.
use Rattle.std.proofs.Common.{◌≡◌, Bool, true, false, cond, List, [], ◌∷◌, ◌++◌, refl, ap, ◌∙◌}
use Rattle.std.specs.Prelude.{◌||◌, ◌&&◌, Some}
use Rattle.std.specs.List.{AllByRecursion}
use Rattle.std.specs.Ordering.{is_eq}
use Rattle.grove_sorts.proofs.Truths.{or_left, or_right, both_true}
use Rattle.grove_sorts.specs.declared.position.Position.{Position}
use Rattle.grove_sorts.specs.declared.sort.Sort.{Sort}
use Rattle.grove_sorts.specs.Ctor.{positions}
use Rattle.grove_edits.specs.declared.vertex.Vertex.{Vertex}
use Rattle.grove_edits.specs.declared.edge.Edge.{Edge}
use Rattle.grove_edits.specs.Graph.{is_same_edge}
use Rattle.std.proofs.lemmas.Cmp.{tied_itself}
use Rattle.grove_edits.proofs.Orders.{edge_cmp_total, one_edge}
use Rattle.graph_words.specs.declared.class.Class.TheVariants.{NoParent, Inner}
use Rattle.graph_words.specs.Live.{holds_edge, parents_of, children_of}
use Rattle.grove_edits.specs.Vertex.{is_same_vertex}
use Rattle.grove_sorts.specs.Position.{is_same_position}
use Rattle.graph_words.specs.Walk.{only_source, above}
use Rattle.graph_words.specs.Class.{is_cycle_root, class_by, class}
use Rattle.grove_edits.proofs.Vertices.{same_vertex_itself, same_vertex_exact}
use Rattle.grove_terms.specs.Forest.{edges_from, edges_under}

pub same_edge_itself : (a : Edge) → is_same_edge a a ≡ true
same_edge_itself a = ap is_eq (tied_itself edge_cmp_total a)

-- an edge that stands in a list, as one that leads from a vertex does
pub record IsFrom (live : List Edge) (v : Vertex) (e : Edge) : Type 0 where
  pub held : holds_edge e live ≡ true
  pub source : e.source ≡ v

-- ---- the parents of the target

pub stands_among : (e : Edge) (live : List Edge) → holds_edge e live ≡ true → holds_edge e (parents_of e.target live) ≡ true
stands_among e [] h = absurd cc
stands_among e (x ∷ xs) h =
    elim (is_same_edge x e) as (λ b. is_same_edge x e ≡ b → (b || holds_edge e xs) ≡ true → holds_edge e (cond (is_same_vertex x.target e.target) (x ∷ parents_of e.target xs) (parents_of e.target xs)) ≡ true) [
      | true ↦ λ same _. first same (is_same_vertex x.target e.target) (ap (λ (y : Edge). is_same_vertex y.target e.target) (one_edge x e same) ∙ same_vertex_itself e.target)
      | false ↦ λ _ rest. later (is_same_vertex x.target e.target) (stands_among e xs rest)
    ] refl h where
      first : is_same_edge x e ≡ true → (b : Bool) → b ≡ true → holds_edge e (cond b (x ∷ parents_of e.target xs) (parents_of e.target xs)) ≡ true
      first same true _ = or_left (is_same_edge x e) (holds_edge e (parents_of e.target xs)) same
      first same false h = absurd cc

      later : (b : Bool) → holds_edge e (parents_of e.target xs) ≡ true → holds_edge e (cond b (x ∷ parents_of e.target xs) (parents_of e.target xs)) ≡ true
      later true h = or_right (is_same_edge x e) (holds_edge e (parents_of e.target xs)) h
      later false h = h

not_none_by : (e : Edge) (ps : List Edge) (b : Bool) → holds_edge e ps ≡ true → class_by ps b ≡ NoParent → ⊥
not_none_by e [] b held is = absurd cc
not_none_by e (p ∷ []) true held is = absurd cc
not_none_by e (p ∷ []) false held is = absurd cc
not_none_by e (p ∷ q ∷ ps) b held is = absurd cc

-- the target of a live edge has a parent
pub target_has_parent : (live : List Edge) (e : Edge) → holds_edge e live ≡ true → class live e.target ≡ NoParent → ⊥
target_has_parent live e held is = not_none_by e (parents_of e.target live) (is_cycle_root live e.target) (stands_among e live held) is

source_by : (e : Edge) (ps : List Edge) (b : Bool) → holds_edge e ps ≡ true → class_by ps b ≡ Inner → only_source ps ≡ Some e.source
source_by e [] b held is = absurd cc
source_by e (p ∷ []) b held is = ap Some (ap (λ (y : Edge). y.source) (one_edge p e (only (is_same_edge p e) held))) where
  only : (a : Bool) → (a || false) ≡ true → a ≡ true
  only true h = refl
  only false h = absurd cc
source_by e (p ∷ q ∷ ps) b held is = absurd cc

-- where the target is inner, the edge's source stands above it
pub above_target : (live : List Edge) (e : Edge) → holds_edge e live ≡ true → class live e.target ≡ Inner → above live e.target ≡ Some e.source
above_target live e held is = source_by e (parents_of e.target live) (is_cycle_root live e.target) (stands_among e live held) is

-- ---- the edges under a vertex

pub all_append : (P : Edge → Type 0) (xs ys : List Edge) → AllByRecursion P xs → AllByRecursion P ys → AllByRecursion P (xs ++ ys)
all_append P [] ys a b = b
all_append P (x ∷ xs) ys a b = (a.0, all_append P xs ys a.1 b)

-- an edge of the list, as one that leads from a position of a vertex does
pub record IsFromPlace (live : List Edge) (v : Vertex) (p : Position) (e : Edge) : Type 0 where
  pub held : holds_edge e live ≡ true
  pub source : e.source ≡ v
  pub position : is_same_position e.position p ≡ true

children_among : (live : List Edge) (v : Vertex) (p : Position) (xs : List Edge) → ((e : Edge) → holds_edge e xs ≡ true → holds_edge e live ≡ true) → AllByRecursion (IsFromPlace live v p) (children_of v p xs)
children_among live v p [] within = tt
children_among live v p (x ∷ xs) within =
    by_test (is_same_vertex x.source v && is_same_position x.position p) refl (children_among live v p xs (λ e h. within e (or_right (is_same_edge x e) (holds_edge e xs) h))) where
      itself : holds_edge x (x ∷ xs) ≡ true
      itself = or_left (is_same_edge x x) (holds_edge x xs) (same_edge_itself x)

      by_test : (b : Bool) → (is_same_vertex x.source v && is_same_position x.position p) ≡ b → AllByRecursion (IsFromPlace live v p) (children_of v p xs)
          → AllByRecursion (IsFromPlace live v p) (cond b (x ∷ children_of v p xs) (children_of v p xs))
      by_test true is rest =
          let parts = both_true (is_same_vertex x.source v) (is_same_position x.position p) is in
          (record { held = within x itself; source = same_vertex_exact x.source v parts.0; position = parts.1 }, rest)
      by_test false is rest = rest

-- the edges from a position of a vertex lead from there
pub children_lead : (live : List Edge) (v : Vertex) (p : Position) → AllByRecursion (IsFromPlace live v p) (children_of v p live)
children_lead live v p = children_among live v p live (λ e h. h)

from_place : (live : List Edge) (v : Vertex) (p : Position) (xs : List Edge) → AllByRecursion (IsFromPlace live v p) xs → AllByRecursion (IsFrom live v) xs
from_place live v p [] all = tt
from_place live v p (x ∷ xs) all = (record { held = all.0.held; source = all.0.source }, from_place live v p xs all.1)

from_lead : (live : List Edge) (v : Vertex) (ps : List (Position × Sort)) → AllByRecursion (IsFrom live v) (edges_from live v ps)
from_lead live v [] = tt
from_lead live v (p ∷ ps) = all_append (IsFrom live v) (children_of v p.0 live) (edges_from live v ps) (from_place live v p.0 (children_of v p.0 live) (children_lead live v p.0)) (from_lead live v ps)

-- the edges under a vertex lead from it
pub under_lead : (live : List Edge) (v : Vertex) → AllByRecursion (IsFrom live v) (edges_under live v)
under_lead live v = from_lead live v (positions v.ctor)
