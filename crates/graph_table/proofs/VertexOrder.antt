-- Vertices of a table by their names and numbers, and their order.
use Rattle.std.proofs.Common.{◌≡◌, ℕ, ◌+◌, ◌<◌, List, [], ◌∷◌, ◌++◌, length, get_or, map, Ordering, is_lt, refl, sym, ap, subst, ◌∙◌, arith}
use Rattle.std.specs.Option.{option_map}
use Rattle.std.specs.List.{AllByRecursion}
use Rattle.std.specs.List.Sorted.{IsPermutation, IsSorted}
use Rattle.std.specs.Cmp.{IsStrictWeakOrder}
use Rattle.std.proofs.lemmas.List.Sorted.{ranks_by}
use Rattle.grove_edits.proofs.Orders.{vertex_cmp_total}
use Rattle.edit_table.specs.Lent.{lent_vertex}
use Rattle.std.proofs.lemmas.List.{length-map, map-append}
use Rattle.std.proofs.lemmas.List.Elements.{recursion_from_All, All-from_recursion, All-push}
use Rattle.std.proofs.lemmas.List.Sorted.{IsPermutation-map, All-permutation}
use Rattle.std.proofs.lemmas.Option.{slice_get-map, slice_get-get_or, get_or_from_slice_get}
use Rattle.grove_edits.specs.declared.vertex.Vertex.{Vertex}
use Rattle.grove_edits.specs.Vertex.{vertex_cmp}
use Rattle.graph_table.specs.declared.named_vertex.NamedVertex.{NamedVertex}
use Rattle.graph_table.specs.Table.{Table, vertex_at, IsNumber}
use Rattle.graph_table.specs.Named.{vertices_of, numbers_of, IsNamed}

-- ---- numbers with their vertices and names

-- one more number
pub numbers-pushed : (xs ys : List NamedVertex) (n : NamedVertex) (before more : List ℕ) → ys ≡ xs ++ n ∷ [] → more ≡ before ++ n.number ∷ [] → numbers_of xs ≡ before → numbers_of ys ≡ more
numbers-pushed xs ys n before more is next so_far =
    ap numbers_of is ∙ map-append (λ (m : NamedVertex). m.number) xs (n ∷ []) ∙ ap (λ (ns : List ℕ). ns ++ n.number ∷ []) so_far ∙ sym next

pub named-pushed : (table : Table) (xs ys : List NamedVertex) (n : NamedVertex) → IsNamed table n → ys ≡ xs ++ n ∷ [] → AllByRecursion (IsNamed table) xs → AllByRecursion (IsNamed table) ys
named-pushed table xs ys n named is all =
    subst (AllByRecursion (IsNamed table)) (sym is)
    (recursion_from_All (IsNamed table) (xs ++ n ∷ []) (All-push (IsNamed table) xs n (All-from_recursion (IsNamed table) xs all) named))

-- ---- vertices in order

-- named vertices are ordered as their vertices
abbrev pub named_cmp : NamedVertex → NamedVertex → Ordering
named_cmp a b = vertex_cmp (lent_vertex a.vertex) (lent_vertex b.vertex)

pub named_rank : IsStrictWeakOrder (λ a b. is_lt (named_cmp a b))
named_rank = ranks_by vertex_cmp_total (λ (n : NamedVertex). lent_vertex n.vertex)

get_mapped : (xs : List NamedVertex) (k : ℕ) (n : NamedVertex) (d : Vertex) → k < length xs → get_or (vertices_of xs) k d ≡ lent_vertex (get_or xs k n).vertex
get_mapped xs k n d lt =
    get_or_from_slice_get (vertices_of xs) k (lent_vertex (get_or xs k n).vertex) d
    (slice_get-map (λ (m : NamedVertex). lent_vertex m.vertex) xs k ∙ ap (option_map (λ (m : NamedVertex). lent_vertex m.vertex)) (slice_get-get_or xs k n lt))

vertices_sorted : (xs : List NamedVertex) → IsSorted named_cmp xs → IsSorted vertex_cmp (vertices_of xs)
vertices_sorted [] up k d low high = absurd (omega arith)
vertices_sorted (n ∷ ns) up k d low high =
    let xs = n ∷ ns in
    let within : k + 1 < length xs = omega (arith, length-map xs (λ (m : NamedVertex). lent_vertex m.vertex)) in
    let a = get_or xs (k + 1) n in
    ap (λ (v : Vertex). is_lt (vertex_cmp v (get_or (vertices_of xs) k d))) (get_mapped xs (k + 1) n d within)
    ∙ ap (λ (v : Vertex). is_lt (vertex_cmp (lent_vertex a.vertex) v)) (get_mapped xs k n d (omega arith))
    ∙ up k n low within

-- ---- the numbers of a list in order

numbers_told : (table : Table) (xs : List NamedVertex) → AllByRecursion (IsNamed table) xs → map (vertex_at table) (numbers_of xs) ≡ vertices_of xs
numbers_told table [] all = refl
numbers_told table (n ∷ xs) all = ap (λ v. v ∷ map (vertex_at table) (numbers_of xs)) all.0.vertex ∙ ap (λ vs. lent_vertex n.vertex ∷ vs) (numbers_told table xs all.1)

numbers_within : (table : Table) (xs : List NamedVertex) → AllByRecursion (IsNamed table) xs → AllByRecursion (IsNumber table) (numbers_of xs)
numbers_within table [] all = tt
numbers_within table (n ∷ xs) all = (all.0.number, numbers_within table xs all.1)

-- a list of numbers with their vertices, before and after it is sorted, and the numbers that are read off it
module _ (table : Table) (xs ys : List NamedVertex) (all : AllByRecursion (IsNamed table) xs) (moved : IsPermutation xs ys) (up : IsSorted named_cmp ys) (sorted : List ℕ) (read : sorted ≡ numbers_of ys) where
  all_moved : AllByRecursion (IsNamed table) ys
  all_moved = recursion_from_All (IsNamed table) ys (All-permutation (IsNamed table) xs ys moved (All-from_recursion (IsNamed table) xs all))

  pub same_numbers : (numbers : List ℕ) → numbers_of xs ≡ numbers → IsPermutation numbers sorted
  same_numbers numbers are = subst (IsPermutation numbers) (sym read) (subst (λ (ns : List ℕ). IsPermutation ns (numbers_of ys)) are (IsPermutation-map (λ (n : NamedVertex). n.number) xs ys moved))

  pub numbers_in_order : IsSorted vertex_cmp (map (vertex_at table) sorted)
  numbers_in_order = subst (IsSorted vertex_cmp) (sym (ap (map (vertex_at table)) read ∙ numbers_told table ys all_moved)) (vertices_sorted ys up)

  pub numbers_of_table : AllByRecursion (IsNumber table) sorted
  numbers_of_table = subst (AllByRecursion (IsNumber table)) (sym read) (numbers_within table ys all_moved)
