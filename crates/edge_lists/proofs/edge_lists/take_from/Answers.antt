use Rattle.std.proofs.Common.{◌≡◌, ap, ◌∙◌, arith}
use Rattle.std.specs.Prelude.{remove}
use Rattle.edge_numbers.specs.Numbered.{edge_at}
use Rattle.edge_lists.specs.Places.{place}
use Rattle.edge_lists.proofs.ByNumber.{prefix_len-held, remove-prefix_len}
use Rattle.edge_lists.proofs.edge_lists.take_from.Goals as goal

pub remove-requires : goal.remove-requires
remove-requires g c =
    let at : c.place_in-index.result ≡ place g.O.ListOrder.order c.args.edges.now c.args.edge c.args.list.now.numbers =
    c.place_in-index.ensures ∙ ap (place g.O.ListOrder.order c.args.edges.now c.args.edge) c.whole.ensures.numbers in
    omega (arith, at, prefix_len-held g.O.ListOrder.order g.met.O.ListOrder.total (edge_at c.args.edges.now) c.args.edge c.args.list.now.numbers c.requires.in_order c.requires.held)

pub returns-clause-numbers : goal.returns-clause-numbers
returns-clause-numbers g c =
    let at : c.place_in-index.result ≡ place g.O.ListOrder.order c.args.edges.now c.args.edge c.args.list.now.numbers =
    c.place_in-index.ensures ∙ ap (place g.O.ListOrder.order c.args.edges.now c.args.edge) c.whole.ensures.numbers in
    c.remove.ensures.numbers
    ∙ ap (remove c.args.list.now.numbers) at
    ∙ remove-prefix_len g.O.ListOrder.order g.met.O.ListOrder.total (edge_at c.args.edges.now) c.args.edge c.args.list.now.numbers c.requires.in_order c.requires.held
