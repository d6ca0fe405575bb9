use Rattle.std.proofs.Common.{map, sym, ap, subst, ◌∙◌, arith}
use Rattle.std.proofs.lemmas.Grind.{common_steps}
use Rattle.std.specs.Prelude.{not}
use Rattle.grove_sorts.specs.Position.{is_same_position}
use Rattle.grove_edits.specs.Graph.{is_same_edge}
use Rattle.edge_numbers.specs.Numbered.{edge_at}
use Rattle.edge_lists.specs.Lists.{numbers_at, edges_at, holds_number, with_position}
use Rattle.edge_lists.specs.Order.{IsInOrder}
use Rattle.edge_lists.proofs.Numbers.{holds-without_number}
use Rattle.edge_lists.proofs.ByNumber.{in_order-filter, edges-without_number}
use Rattle.edge_lists.proofs.Positions.{filter-filter}
use Rattle.edge_lists.proofs.edge_lists.EdgeLists.take_out.Goals as goal

pub returns-clause-numbers : goal.returns-clause-numbers
returns-clause-numbers g c = grind (arith, common_steps)

pub returns-clause-edges : goal.returns-clause-edges
returns-clause-edges g c =
    ap (map (edge_at c.args.edges.now)) (returns-clause-numbers g c)
    ∙ edges-without_number g.O.ListOrder.order g.met.O.ListOrder.total (edge_at c.args.edges.now) c.args.edge (numbers_at c.args.self.now c.args.vertex) c.requires.in_order c.requires.held

pub returns-clause-positions : goal.returns-clause-positions
returns-clause-positions g c = λ p.
    ap (with_position p) (returns-clause-edges g c)
    ∙ filter-filter (λ x. is_same_position x.position p) (λ x. not (is_same_edge x (edge_at c.args.edges.now c.args.edge))) (edges_at c.args.edges.now c.args.self.now c.args.vertex)

pub returns-clause-holds : goal.returns-clause-holds
returns-clause-holds g c = λ n. ap (holds_number n) (returns-clause-numbers g c) ∙ holds-without_number c.args.edge n (numbers_at c.args.self.now c.args.vertex)

pub returns-clause-in_order : goal.returns-clause-in_order
returns-clause-in_order g c =
    subst (IsInOrder g.O.ListOrder.order) (sym (returns-clause-edges g c))
    (in_order-filter g.O.ListOrder.order g.met.O.ListOrder.total (λ x. not (is_same_edge x (edge_at c.args.edges.now c.args.edge))) (edges_at c.args.edges.now c.args.self.now c.args.vertex) c.requires.in_order)
