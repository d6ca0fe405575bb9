use Rattle.std.proofs.Common.{sym, ◌∙◌}
use Rattle.edge_numbers.proofs.States.{state_numbered, state_unnumbered}
use Rattle.edge_numbers.proofs.edge_numbers.EdgeNumbers.state.Goals as goal

pub returns-in-Some : goal.returns-in-Some
returns-in-Some c = c.state_at.ensures ∙ sym (state_numbered c.args.self.now c.args.edge.now c.in-Some.number c.in-Some.ensures.only c.in-Some.ensures.number)

pub returns-in-None : goal.returns-in-None
returns-in-None c = sym (state_unnumbered c.args.self.now c.args.edge.now (λ n is. let found = c.in-None.ensures.only n is in cc))
