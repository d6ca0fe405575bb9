use Rattle.std.proofs.Common.{◌≡◌, List, ℕ, subst, ap, ◌∙◌}
use Rattle.std.specs.List.Sorted.{IsPermutation}
use Rattle.graph_words.specs.declared.class.Class.TheVariants.{Cycle}
use Rattle.graph_words.specs.Class.{of_class}
use Rattle.graph_table.specs.Table.{live}
use Rattle.grove_decompose.specs.Trees.{vertices_of}
use Rattle.grove_decompose.proofs.SortedHeads.{sorted_heads}
use Rattle.grove_decompose.proofs.trees.cycle_heads.Goals as goal

pub returns-clause-cycle : goal.returns-clause-cycle
returns-clause-cycle c =
    let table = c.args.table.now in
    let numbers = c.narrow_count.ensures in
    let roots : List ℕ = c.in_ok-roots.roots.items in
    let sorted : List ℕ = c.in_ok-sort_numbers.field-0.items in
    let found : vertices_of table roots ≡ of_class Cycle (live table) table.vertices =
    c.in_ok-roots.ensures.cycle ∙ ap (λ (ns : List ℕ). of_class Cycle (live table) (vertices_of table ns)) c.deref.ensures.value ∙ c.in_ok-candidates.ensures.cycle in
    sorted_heads Cycle table numbers.once numbers.each numbers.no_other roots sorted found
    (subst (λ (ns : List ℕ). IsPermutation ns sorted) c.deref-2.ensures.value c.in_ok-sort_numbers.ensures.same) c.in_ok-sort_numbers.ensures.order
