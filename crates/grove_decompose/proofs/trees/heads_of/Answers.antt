use Rattle.std.proofs.Common.{List, ℕ, subst}
use Rattle.std.specs.List.Sorted.{IsPermutation}
use Rattle.graph_words.specs.declared.class.Class.TheVariants.{NoParent, Multi}
use Rattle.grove_decompose.proofs.SortedHeads.{sorted_heads}
use Rattle.grove_decompose.proofs.trees.heads_of.Goals as goal

pub returns-clause-none : goal.returns-clause-none
returns-clause-none c =
    let numbers = c.narrow_count.ensures in
    let sorted = c.in_ok-sort_numbers.ensures in
    sorted_heads NoParent c.args.table.now numbers.once numbers.each numbers.no_other c.in_ok-found.found.none.items c.in_ok-sort_numbers.field-0.items c.in_ok-found.ensures.none
    (subst (λ (ns : List ℕ). IsPermutation ns c.in_ok-sort_numbers.field-0.items) c.deref.ensures.value sorted.same) sorted.order

pub returns-clause-multi : goal.returns-clause-multi
returns-clause-multi c =
    let numbers = c.narrow_count.ensures in
    let sorted = c.in_ok-sort_numbers-2.ensures in
    sorted_heads Multi c.args.table.now numbers.once numbers.each numbers.no_other c.in_ok-found.found.multi.items c.in_ok-sort_numbers-2.field-0.items c.in_ok-found.ensures.multi
    (subst (λ (ns : List ℕ). IsPermutation ns c.in_ok-sort_numbers-2.field-0.items) c.deref-2.ensures.value sorted.same) sorted.order
