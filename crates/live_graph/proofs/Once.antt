-- A sorted list in which each element is kept once.
use Rattle.std.proofs.Common.{◌≡◌, Bool, true, false, cond, List, [], ◌∷◌, Ordering, refl, sym, ap, subst, ◌∙◌}
use Rattle.std.specs.Prelude.{◌||◌}
use Rattle.std.specs.List.{list_any, dedup, dedup_from}
use Rattle.std.specs.List.Retain.{IsFiltered, DiffersFromLast}
use Rattle.std.specs.List.Sorted.{IsPermutation, IsSorted, IsStrictlySortedBy}
use Rattle.std.specs.Cmp.{IsTotalOrder}
use Rattle.std.specs.Ordering.{eq_by_cmp}
use Rattle.std.proofs.lemmas.List.Filters.{dedup_is}
use Rattle.std.proofs.lemmas.List.Kept.{IsStrictlySortedBy-dedup}
use Rattle.std.proofs.lemmas.List.Sorted.{list_any-IsPermutation}
use Rattle.grove_edits.specs.declared.vertex.Vertex.{Vertex}
use Rattle.grove_edits.specs.Vertex.{vertex_cmp, is_same_vertex, stands_in}
use Rattle.grove_edits.specs.contracts.vertex.VertexOrd.TheImpl as vertex_impl
use Rattle.grove_edits.specs.contracts.vertex.VertexPartialEq.TheImpl as vertex_eq
use Rattle.grove_edits.proofs.Orders.{vertex_cmp_total, cmp_is_vertex_cmp, edge_cmp_total, cmp_is_edge_cmp, eq_is_same_edge, one_edge}
use Rattle.grove_edits.proofs.Vertices.{same_vertex_exact, eq_is_same_vertex}
use Rattle.grove_edits.specs.declared.edge.Edge.{Edge}
use Rattle.grove_edits.specs.Edge.{edge_cmp}
use Rattle.grove_edits.specs.Graph.{is_same_edge}
use Rattle.grove_edits.specs.contracts.edge.EdgeOrd.TheImpl as edge_impl
use Rattle.grove_edits.specs.contracts.edge.EdgePartialEq.TheImpl as edge_eq
use Rattle.graph_words.specs.Whole.{IsInVertexOrder}
use Rattle.graph_words.specs.Live.{IsInEdgeOrder, holds_edge}

-- where what is alike is one, nothing is lost
module _ {X : Type 0} (E : X → X → Bool) (exact : (x y : X) → E x y ≡ true → x ≡ y) (p : X → Bool) where
  or_twice : (b c : Bool) → (b || c) ≡ (b || (b || c))
  or_twice true c = refl
  or_twice false c = refl

  kept_from : (k : X) (xs : List X) → list_any p (dedup_from E k xs) ≡ (p k || list_any p xs)
  kept_from k [] = refl
  kept_from k (x ∷ xs) = by_test (E x k) refl (kept_from k xs) (kept_from x xs) where
    by_test : (b : Bool) → E x k ≡ b → list_any p (dedup_from E k xs) ≡ (p k || list_any p xs) → list_any p (dedup_from E x xs) ≡ (p x || list_any p xs)
        → list_any p (cond b (dedup_from E k xs) (k ∷ dedup_from E x xs)) ≡ (p k || (p x || list_any p xs))
    by_test true same again _ = again ∙ or_twice (p k) (list_any p xs) ∙ ap (λ y. p k || (p y || list_any p xs)) (sym (exact x k same))
    by_test false _ _ rest = ap (λ b. p k || b) rest

  list_any-dedup : (xs : List X) → list_any p (dedup E xs) ≡ list_any p xs
  list_any-dedup [] = refl
  list_any-dedup (x ∷ xs) = kept_from x xs

module _ {X : Type 0} (R : X → X → Ordering) (total : IsTotalOrder R) (E : X → X → Bool) (ties : (x y : X) → E x y ≡ eq_by_cmp R x y) (exact : (x y : X) → E x y ≡ true → x ≡ y)
    (before sorted after : List X) (filtered : IsFiltered (DiffersFromLast E) [] sorted after) where
  pub strict : IsSorted R sorted → IsStrictlySortedBy R after
  strict up = subst (IsStrictlySortedBy R) (sym (dedup_is E sorted after filtered)) (IsStrictlySortedBy-dedup total ties sorted up)

  pub same_elements : IsPermutation before sorted → (p : X → Bool) → list_any p after ≡ list_any p before
  same_elements moved p = ap (list_any p) (dedup_is E sorted after filtered) ∙ list_any-dedup E exact p sorted ∙ sym (list_any-IsPermutation p before sorted moved)

-- ---- vertices

stands-any : (v : Vertex) (xs : List Vertex) → stands_in v xs ≡ list_any (λ x. is_same_vertex x v) xs
stands-any v [] = refl
stands-any v (x ∷ xs) = ap (λ b. is_same_vertex x v || b) (stands-any v xs)

in_vertex_order : (vs : List Vertex) → IsStrictlySortedBy vertex_cmp vs → IsInVertexOrder vs
unfolding IsStrictlySortedBy
in_vertex_order [] up = tt
in_vertex_order (v ∷ vs) up = (up.0, in_vertex_order vs up.1)

module _ (before sorted after : List Vertex) (filtered : IsFiltered (DiffersFromLast vertex_eq.eq-value.it) [] sorted after) where
  exact : (a b : Vertex) → vertex_eq.eq-value.it a b ≡ true → a ≡ b
  exact a b same = same_vertex_exact a b (sym (eq_is_same_vertex a b) ∙ same)

  pub vertices_in_order : IsSorted vertex_impl.ghosts.cmp sorted → IsInVertexOrder after
  vertices_in_order up =
      in_vertex_order after
      (strict vertex_cmp vertex_cmp_total vertex_eq.eq-value.it eq_is_same_vertex exact before sorted after filtered
      (subst (λ (R : Vertex → Vertex → Ordering). IsSorted R sorted) (λ j a b. cmp_is_vertex_cmp a b j) up))

  pub same_vertices : IsPermutation before sorted → (v : Vertex) → stands_in v after ≡ stands_in v before
  same_vertices moved v =
      stands-any v after
      ∙ same_elements vertex_cmp vertex_cmp_total vertex_eq.eq-value.it eq_is_same_vertex exact before sorted after filtered moved (λ x. is_same_vertex x v)
      ∙ sym (stands-any v before)

-- ---- edges

in_edge_order : (es : List Edge) → IsStrictlySortedBy edge_cmp es → IsInEdgeOrder es
unfolding IsStrictlySortedBy
in_edge_order [] up = tt
in_edge_order (e ∷ es) up = (up.0, in_edge_order es up.1)

module _ (before sorted after : List Edge) (filtered : IsFiltered (DiffersFromLast edge_eq.ghosts.eq) [] sorted after) where
  exact_edge : (a b : Edge) → edge_eq.ghosts.eq a b ≡ true → a ≡ b
  exact_edge a b same = one_edge a b (sym (eq_is_same_edge a b) ∙ same)

  pub edges_in_order : IsSorted edge_impl.ghosts.cmp sorted → IsInEdgeOrder after
  edges_in_order up =
      in_edge_order after
      (strict edge_cmp edge_cmp_total edge_eq.ghosts.eq eq_is_same_edge exact_edge before sorted after filtered
      (subst (λ (R : Edge → Edge → Ordering). IsSorted R sorted) (λ j a b. cmp_is_edge_cmp a b j) up))

  pub same_edges : IsPermutation before sorted → (e : Edge) → holds_edge e after ≡ holds_edge e before
  same_edges moved e = same_elements edge_cmp edge_cmp_total edge_eq.ghosts.eq eq_is_same_edge exact_edge before sorted after filtered moved (λ x. is_same_edge x e)
