use Rattle.std.proofs.Common.{◌≡◌, Vec, Global, map, ap, ◌∙◌, ℕ, rules}
use Rattle.std.specs.Ordering.{is_lt}
use Rattle.std.proofs.lemmas.Fn.{always_returns_same}
use Rattle.std.specs.List.{AllByRecursion}
use Rattle.std.specs.List.Sorted.{IsPermutation, IsSorted}
use Rattle.std.proofs.lemmas.Result.{IfOk-weaker}
use Rattle.grove_edits.specs.Vertex.{vertex_cmp}
use Rattle.graph_table.specs.Table.{vertex_at, IsNumber}
use Rattle.graph_table.specs.Named.{numbers_of}
use Rattle.graph_table.proofs.VertexOrder.{named_cmp, named_rank, same_numbers, numbers_in_order, numbers_of_table}
use Rattle.graph_table.proofs.ordering.in_vertex_order.Goals as goal

ascends : (c : goal.After-drop-list) → IsSorted named_cmp c.sort_unstable_by.new.self.items
ascends c =
    c.sort_unstable_by.ensures.sorted (λ x y. is_lt (named_cmp x y)) named_rank (always_returns_same _ _ _
    (λ a r f called.
    let same : r ≡ named_cmp a.0.now a.1.0.now = search rules in
    (ap is_lt same, search rules)))

pub returns-clause-same : goal.returns-clause-same
returns-clause-same c =
    let named = c.in_ok-list.ensures in
    let sorted = c.sort_unstable_by.ensures in
    IfOk-weaker c.numbers_of.result _ (λ (list : Vec ℕ Global). IsPermutation c.args.numbers.now list.items)
    (λ list read. same_numbers c.args.table.now c.in_ok-list.list.items c.sort_unstable_by.new.self.items named.named sorted.permutation (ascends c) list.items (read ∙ ap numbers_of c.deref.ensures.value)
    c.args.numbers.now named.numbers)
    c.numbers_of.ensures

pub returns-clause-order : goal.returns-clause-order
returns-clause-order c =
    let named = c.in_ok-list.ensures in
    let sorted = c.sort_unstable_by.ensures in
    IfOk-weaker c.numbers_of.result _ (λ (list : Vec ℕ Global). IsSorted vertex_cmp (map (vertex_at c.args.table.now) list.items))
    (λ list read. numbers_in_order c.args.table.now c.in_ok-list.list.items c.sort_unstable_by.new.self.items named.named sorted.permutation (ascends c) list.items (read ∙ ap numbers_of c.deref.ensures.value))
    c.numbers_of.ensures

pub returns-clause-numbers : goal.returns-clause-numbers
returns-clause-numbers c =
    let named = c.in_ok-list.ensures in
    let sorted = c.sort_unstable_by.ensures in
    IfOk-weaker c.numbers_of.result _ (λ (list : Vec ℕ Global). AllByRecursion (IsNumber c.args.table.now) list.items)
    (λ list read. numbers_of_table c.args.table.now c.in_ok-list.list.items c.sort_unstable_by.new.self.items named.named sorted.permutation (ascends c) list.items (read ∙ ap numbers_of c.deref.ensures.value))
    c.numbers_of.ensures
