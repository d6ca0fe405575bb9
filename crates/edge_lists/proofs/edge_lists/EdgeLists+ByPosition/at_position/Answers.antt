use Rattle.std.proofs.Common.{◌≡◌, ◌-◌, ◌≤◌, true, length, map, take, drop, sym, ap, subst, ◌∙◌, arith}
use Rattle.std.specs.List.{slice_range}
use Rattle.grove_sorts.specs.Position.{is_same_position}
use Rattle.graph_words.specs.Live.{IsInEdgeOrder}
use Rattle.edge_numbers.specs.Numbered.{edge_at}
use Rattle.edge_lists.specs.Lists.{Listed, numbers_at, edges_at, numbers_with_position}
use Rattle.edge_lists.specs.Order.{IsInOrder, position_first}
use Rattle.edge_lists.specs.OrderLaws.{position_first_within}
use Rattle.edge_lists.specs.Places.{is_from_before}
use Rattle.edge_lists.proofs.Prefixes.{prefix_len-le}
use Rattle.edge_lists.proofs.Positions.{map-filter, prefix_lens, slice-position, in_order-with_position}
use Rattle.edge_lists.proofs.edge_lists.EdgeLists+ByPosition.at_position.Goals as goal

pub of-requires-clause-ends : goal.of-requires-clause-ends
of-requires-clause-ends c =
    omega (arith, c.place_of-from.ensures, c.place_of-to.ensures, prefix_lens (edge_at c.args.edges.now) c.args.position c.whole-numbers.result)

pub of-requires-clause-within : goal.of-requires-clause-within
of-requires-clause-within c =
    let inside = prefix_len-le (is_from_before true c.args.position c.args.edges.now) c.whole-numbers.result in
    subst (λ ns. c.place_of-to.result ≤ length ns) c.whole-numbers.ensures.numbers (omega (arith, c.place_of-to.ensures, inside))

pub returns-clause-numbers : goal.returns-clause-numbers
returns-clause-numbers c =
    let xs = c.whole-numbers.result in
    let from = c.place_of-from.result in
    let to = c.place_of-to.result in
    let is : xs ≡ numbers_at c.args.self.now c.args.vertex = c.whole-numbers.ensures.numbers ∙ ap (λ (l : Listed). l.numbers) c.list_at-list.ensures in
    c.of.ensures
    ∙ ap (λ ns. slice_range ns from to) (sym c.whole-numbers.ensures.numbers)
    ∙ (λ j. take (c.place_of-to.ensures j - c.place_of-from.ensures j) (drop (c.place_of-from.ensures j) xs))
    ∙ slice-position (edge_at c.args.edges.now) c.args.position xs (subst (λ ns. IsInOrder position_first (map (edge_at c.args.edges.now) ns)) (sym is) c.requires.in_order)
    ∙ ap (numbers_with_position c.args.edges.now c.args.position) is

pub returns-clause-edges : goal.returns-clause-edges
returns-clause-edges c =
    ap (map (edge_at c.args.edges.now)) (returns-clause-numbers c)
    ∙ map-filter (edge_at c.args.edges.now) (λ e. is_same_position e.position c.args.position) (numbers_at c.args.self.now c.args.vertex)

pub returns-clause-in_order : goal.returns-clause-in_order
returns-clause-in_order c =
    subst IsInEdgeOrder (sym (returns-clause-edges c))
    (in_order-with_position c.args.position position_first position_first_within (edges_at c.args.edges.now c.args.self.now c.args.vertex) c.requires.in_order)
