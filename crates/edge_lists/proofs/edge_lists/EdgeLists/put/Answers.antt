use Rattle.std.proofs.Common.{map, sym, ap, subst, ◌∙◌, arith}
use Rattle.std.proofs.lemmas.Grind.{common_steps}
use Rattle.edge_numbers.specs.Numbered.{edge_at}
use Rattle.edge_lists.specs.Lists.{numbers_at, edges_at, holds_number, with_position}
use Rattle.edge_lists.specs.Order.{by_edge, IsInOrder}
use Rattle.edge_lists.proofs.Numbers.{holds-with_number}
use Rattle.edge_lists.proofs.ByNumber.{in_order-with_edge_by, edges-with_number}
use Rattle.edge_lists.proofs.Positions.{with_position-with_edge_by}
use Rattle.edge_lists.proofs.edge_lists.EdgeLists.put.Goals as goal

pub returns-clause-numbers : goal.returns-clause-numbers
returns-clause-numbers g c = grind (arith, common_steps)

pub returns-clause-edges : goal.returns-clause-edges
returns-clause-edges g c =
    ap (map (edge_at c.args.edges.now)) (returns-clause-numbers g c)
    ∙ edges-with_number g.O.ListOrder.order g.met.O.ListOrder.total (edge_at c.args.edges.now) g.met.O.ListOrder.exact c.args.edge (numbers_at c.args.self.now c.args.vertex) c.requires.new

pub returns-clause-positions : goal.returns-clause-positions
returns-clause-positions g c = λ p.
    ap (with_position p) (returns-clause-edges g c)
    ∙ with_position-with_edge_by p g.O.ListOrder.order g.met.O.ListOrder.within g.met.O.ListOrder.total g.met.O.ListOrder.exact (edge_at c.args.edges.now c.args.edge) (edges_at c.args.edges.now c.args.self.now c.args.vertex) c.requires.in_order

pub returns-clause-holds : goal.returns-clause-holds
returns-clause-holds g c = λ n.
    ap (holds_number n) (returns-clause-numbers g c)
    ∙ holds-with_number (by_edge g.O.ListOrder.order c.args.edges.now) c.args.edge n (numbers_at c.args.self.now c.args.vertex)

pub returns-clause-in_order : goal.returns-clause-in_order
returns-clause-in_order g c =
    subst (IsInOrder g.O.ListOrder.order) (sym (returns-clause-edges g c))
    (in_order-with_edge_by g.O.ListOrder.order g.met.O.ListOrder.total (edge_at c.args.edges.now c.args.edge) (edges_at c.args.edges.now c.args.self.now c.args.vertex) c.requires.in_order)
