-- The indices of the live edges to a vertex lie within the table.
use Rattle.std.proofs.Common.{◌≡◌, ℕ, suc, ◌+◌, ◌<◌, Bool, true, false, cond, List, [], ◌∷◌, length, arith}
use Rattle.std.specs.List.{AllByRecursion}
use Rattle.grove_edits.specs.declared.vertex.Vertex.{Vertex}
use Rattle.grove_edits.specs.declared.edit.Edit.{Edit}
use Rattle.graph_table.specs.Table.{Table, IsIndex}
use Rattle.graph_table.specs.Around.{first_indices, leads_to, parents_from}
use Rattle.graph_table.specs.ParentIndices.{AreIndices}

all_below : (n m : ℕ) (v : Vertex) (edits : List Edit) → n + length edits ≡ m → AllByRecursion (λ i. i < m) (parents_from n v edits)
all_below n m v [] is = tt
all_below n m v (x ∷ xs) is = by_test (leads_to v x) (all_below (suc n) m v xs (omega (arith, is))) where
  first : n < m
  first = omega (arith, is)

  by_test : (b : Bool) → AllByRecursion (λ i. i < m) (parents_from (suc n) v xs) → AllByRecursion (λ i. i < m) (cond b (n ∷ parents_from (suc n) v xs) (parents_from (suc n) v xs))
  by_test true rest = (first, rest)
  by_test false rest = rest

first_below : (table : Table) (is : List ℕ) → AllByRecursion (IsIndex table) is → AreIndices table (first_indices is)
first_below table [] all = tt
first_below table (i ∷ []) all = all.0
first_below table (i ∷ j ∷ is) all = (all.0, all.1.0)

pub are_indices : (table : Table) (v : Vertex) → AreIndices table (first_indices (parents_from 0 v table.edits))
are_indices table v = first_below table (parents_from 0 v table.edits) (all_below 0 (length table.edits) v table.edits (omega arith))
