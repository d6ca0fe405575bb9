use Rattle.std.proofs.Common.{sym, ap, ◌∙◌}
use Rattle.grove_sorts.specs.contracts.position.PositionPartialEq.TheImpl as position_eq
use Rattle.edge_numbers.specs.Numbered.{edge_at}
use Rattle.numbers_by_name.specs.ByName.{is_same_name}
use Rattle.live_graph.proofs.OneEdge.{one_edge_by_parts}
use Rattle.live_graph.proofs.by_name.is_edge.Goals as goal

pub returns-then-is_same_name : goal.returns-then-is_same_name
returns-then-is_same_name c is =
    one_edge_by_parts (edge_at c.args.edges.now c.args.number) c.args.edge.now
    (ap (λ p. position_eq.eq-value.it p c.args.edge.now.position) (sym c.position.ensures) ∙ sym c.eq.ensures ∙ c.if-eq.true)
    (ap (λ n. is_same_name n c.args.edge.now.name) (sym c.name.ensures) ∙ sym c.is_same_name.ensures ∙ c.if-is_same_name.true)
    (sym c.has_ends.ensures ∙ is)
