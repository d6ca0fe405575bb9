-- Vertices of a class that were found in the order of their numbers, and then sorted, are those of the class among the graph's vertices in order.
use Rattle.std.proofs.Common.{◌≡◌, ℕ, zero, suc, ◌+◌, ◌<◌, ◌||◌, Bool, true, false, cond, List, [], ◌∷◌, length, get_or, Ordering, Less, Equal, Greater, is_eq, is_lt, refl, sym, ap, subst, ◌∙◌, arith}
use Rattle.std.specs.Prelude.{◌&&◌}
use Rattle.std.specs.Ordering.{ordering_reverse}
use Rattle.std.specs.List.{IsDistinct, list_any}
use Rattle.std.specs.List.Sorted.{IsPermutation, IsSorted}
use Rattle.std.proofs.lemmas.List.Elements.{recursion_from_All, All-from_recursion}
use Rattle.std.proofs.lemmas.List.MinMax.{ranks_by}
use Rattle.std.proofs.lemmas.List.Sorted.{sorted_far, list_any-IsPermutation, IsPermutation-map}
use Rattle.std.proofs.lemmas.Map.Keys.{IsDistinct-head, IsDistinct-tail, IsDistinct-cons, IsDistinct-IsPermutation}
use Rattle.grove_edits.specs.declared.vertex.Vertex.{Vertex}
use Rattle.grove_edits.specs.declared.edge.Edge.{Edge}
use Rattle.grove_edits.specs.Vertex.{vertex_cmp, is_same_vertex, stands_in}
use Rattle.grove_edits.specs.Graph.{graph}
use Rattle.grove_edits.proofs.Orders.{vertex_cmp_total, vertex_cmp_exact}
use Rattle.grove_edits.proofs.Vertices.{same_vertex_laws}
use Rattle.graph_words.specs.declared.class.Class.{Class}
use Rattle.graph_words.specs.Class.{class, is_same_class, of_class}
use Rattle.graph_words.specs.Whole.{IsInVertexOrder, IsVertexOf, AreVertices}
use Rattle.grove_terms.proofs.InOrder.{IsExactOrder, IsInOrder, holds, one_in_order, in_order_filter, holds-filter}
use Rattle.graph_table.specs.Table.{Table, live, vertex_at}
use Rattle.grove_decompose.specs.Trees.{vertices_of}
use Rattle.grove_decompose.proofs.ByNumber.{all_of}
use Rattle.grove_sorts.proofs.Truths.{same_tests}

-- ---- lists of vertices, as lists in an order

vertex_order : IsExactOrder vertex_cmp
vertex_order = record { total = vertex_cmp_total; exact = vertex_cmp_exact }

vertices_in_order : (vs : List Vertex) → IsInVertexOrder vs → IsInOrder vertex_cmp vs
vertices_in_order [] order = tt
vertices_in_order (v ∷ vs) order = (order.0, vertices_in_order vs order.1)

holds-vertices : (v : Vertex) (vs : List Vertex) → holds vertex_cmp v vs ≡ stands_in v vs
holds-vertices v [] = refl
holds-vertices v (x ∷ xs) = ap (λ b. is_same_vertex x v || b) (holds-vertices v xs)

holds-any : (v : Vertex) (vs : List Vertex) → holds vertex_cmp v vs ≡ list_any (λ x. is_same_vertex x v) vs
holds-any v [] = refl
holds-any v (x ∷ xs) = ap (λ b. is_same_vertex x v || b) (holds-any v xs)

-- a list that has changed places holds the same
holds-permutation : (xs ys : List Vertex) → IsPermutation xs ys → (v : Vertex) → holds vertex_cmp v ys ≡ holds vertex_cmp v xs
holds-permutation xs ys moved v = holds-any v ys ∙ sym (list_any-IsPermutation (λ x. is_same_vertex x v) xs ys moved) ∙ sym (holds-any v xs)

-- ---- sorted vertices

less_of_tests : (o : Ordering) → is_lt (ordering_reverse o) ≡ false → is_eq o ≡ false → o ≡ Less
less_of_tests Less h e = refl
less_of_tests Equal h e = absurd cc
less_of_tests Greater h e = absurd cc

tail_sorted : (x : Vertex) (xs : List Vertex) → IsSorted vertex_cmp (x ∷ xs) → IsSorted vertex_cmp xs
tail_sorted x xs up k d low high =
    let next : suc k + 1 ≡ suc (k + 1) = omega arith in
    subst (λ (n : ℕ). is_lt (vertex_cmp (get_or (x ∷ xs) n d) (get_or xs k d)) ≡ false) next (up (suc k) d (omega arith) (omega arith))

-- sorted vertices of which no two are one come each before all later ones
in_order_when_distinct : (xs : List Vertex) → IsSorted vertex_cmp xs → IsDistinct is_same_vertex xs → IsInOrder vertex_cmp xs
in_order_when_distinct [] up distinct = tt
in_order_when_distinct (x ∷ xs) up distinct =
    (recursion_from_All (λ later. vertex_cmp x later ≡ Less) xs before, in_order_when_distinct xs (tail_sorted x xs up) (IsDistinct-tail is_same_vertex x xs distinct))
  where
    before : (k : ℕ) (d : Vertex) → k < length xs → vertex_cmp x (get_or xs k d) ≡ Less
    before k d lt =
        let up_to = sorted_far (λ a b. is_lt (vertex_cmp a b)) (ranks_by vertex_cmp_total (λ (v : Vertex). v)) (x ∷ xs) up zero (suc k) d (omega arith) (omega arith) in
        let other = All-from_recursion (λ y. is_same_vertex x y ≡ false) xs (IsDistinct-head is_same_vertex x xs distinct) k d lt in
        less_of_tests (vertex_cmp x (get_or xs k d)) (ap is_lt (sym (vertex_cmp_total.antisymm (get_or xs k d) x)) ∙ up_to) other

-- ---- vertices of a class

distinct_class : (c : Class) (edges : List Edge) (vs : List Vertex) → IsDistinct is_same_vertex vs → IsDistinct is_same_vertex (of_class c edges vs)
distinct_class c edges [] once = once
distinct_class c edges (v ∷ vs) once = by_test (is_same_class (class edges v) c) (distinct_class c edges vs (IsDistinct-tail is_same_vertex v vs once)) where
  by_test : (b : Bool) → IsDistinct is_same_vertex (of_class c edges vs) → IsDistinct is_same_vertex (cond b (v ∷ of_class c edges vs) (of_class c edges vs))
  by_test true rest = IsDistinct-cons is_same_vertex v (of_class c edges vs) (all_of (λ x. is_same_vertex v x ≡ false) c edges vs (IsDistinct-head is_same_vertex v vs once)) rest
  by_test false rest = rest

module _ (c : Class) (table : Table) (once : IsDistinct is_same_vertex table.vertices) (each : (v : Vertex) → IsVertexOf (graph table.edits) v → stands_in v table.vertices ≡ true)
    (no_other : (v : Vertex) → stands_in v table.vertices ≡ true → IsVertexOf (graph table.edits) v) (found sorted : List ℕ) (are : vertices_of table found ≡ of_class c (live table) table.vertices)
    (moved : IsPermutation found sorted) (up : IsSorted vertex_cmp (vertices_of table sorted)) where
  moved_vertices : IsPermutation (of_class c (live table) table.vertices) (vertices_of table sorted)
  moved_vertices = subst (λ (vs : List Vertex). IsPermutation vs (vertices_of table sorted)) are (IsPermutation-map (vertex_at table) found sorted moved)

  ascend : IsInOrder vertex_cmp (vertices_of table sorted)
  ascend =
      in_order_when_distinct (vertices_of table sorted) up
      (IsDistinct-IsPermutation is_same_vertex same_vertex_laws.symm (of_class c (live table) table.vertices) (vertices_of table sorted) moved_vertices (distinct_class c (live table) table.vertices once))

  -- the numbers are those of all vertices of the graph
  numbered : (vertices : List Vertex) → AreVertices (graph table.edits) vertices → (v : Vertex) → holds vertex_cmp v table.vertices ≡ holds vertex_cmp v vertices
  numbered vertices all v =
      same_tests (holds vertex_cmp v table.vertices) (holds vertex_cmp v vertices)
      (λ h. holds-vertices v vertices ∙ all.each v (no_other v (sym (holds-vertices v table.vertices) ∙ h)))
      (λ h. holds-vertices v table.vertices ∙ each v (all.no_other v (sym (holds-vertices v vertices) ∙ h)))

  pub sorted_heads : (vertices : List Vertex) → AreVertices (graph table.edits) vertices → vertices_of table sorted ≡ of_class c (live table) vertices
  sorted_heads vertices all =
      one_in_order vertex_cmp vertex_order (vertices_of table sorted) (of_class c (live table) vertices) ascend
      (in_order_filter vertex_cmp (λ v. is_same_class (class (live table) v) c) vertices (vertices_in_order vertices all.in_order)) (λ v h. sym (alike v) ∙ h) (λ v h. alike v ∙ h)
    where
      alike : (v : Vertex) → holds vertex_cmp v (vertices_of table sorted) ≡ holds vertex_cmp v (of_class c (live table) vertices)
      alike v =
          holds-permutation (of_class c (live table) table.vertices) (vertices_of table sorted) moved_vertices v
          ∙ holds-filter vertex_cmp vertex_order (λ u. is_same_class (class (live table) u) c) v table.vertices
          ∙ ap (λ b. is_same_class (class (live table) v) c && b) (numbered vertices all v)
          ∙ sym (holds-filter vertex_cmp vertex_order (λ u. is_same_class (class (live table) u) c) v vertices)
