use Rattle.std.proofs.Common.{◌≡◌, ap, ◌∙◌, arith}
use Rattle.std.specs.Prelude.{insert}
use Rattle.edge_lists.specs.Order.{by_edge}
use Rattle.edge_lists.specs.Places.{place, is_before}
use Rattle.edge_lists.proofs.Prefixes.{prefix_len-le}
use Rattle.edge_lists.proofs.Numbers.{insert-prefix_len}
use Rattle.edge_lists.proofs.edge_lists.put_in.Goals as goal

pub insert-requires-clause-index : goal.insert-requires-clause-index
insert-requires-clause-index g c =
    let at : c.place_in-index.result ≡ place g.O.ListOrder.order c.args.edges.now c.args.edge c.args.list.now.numbers =
    c.place_in-index.ensures ∙ ap (place g.O.ListOrder.order c.args.edges.now c.args.edge) c.whole.ensures.numbers in
    omega (arith, at, prefix_len-le (is_before g.O.ListOrder.order c.args.edges.now c.args.edge) c.args.list.now.numbers)

pub returns-clause-numbers : goal.returns-clause-numbers
returns-clause-numbers g c =
    let at : c.place_in-index.result ≡ place g.O.ListOrder.order c.args.edges.now c.args.edge c.args.list.now.numbers =
    c.place_in-index.ensures ∙ ap (place g.O.ListOrder.order c.args.edges.now c.args.edge) c.whole.ensures.numbers in
    c.insert.ensures.numbers
    ∙ ap (λ i. insert c.args.list.now.numbers i c.args.edge) at
    ∙ insert-prefix_len (by_edge g.O.ListOrder.order c.args.edges.now) c.args.edge c.args.list.now.numbers
