use Rattle.std.proofs.Common.{◌≡◌, sym, subst}
use Rattle.std.specs.Prelude.{IfOk}
use Rattle.grove_edits.specs.declared.command.Command.{Command}
use Rattle.replica_core.specs.Step.{reply}
use Rattle.replica_core.proofs.planning.due.Goals as goal

pub returns-in-Act-clause-answer : goal.returns-in-Act-clause-answer
returns-in-Act-clause-answer g c = λ content shows.
    subst (λ (command : Command). IfOk c.planned_by.result (λ due. due.1 ≡ reply content c.args.actor command)) (sym c.in-Act.is) (c.planned_by.ensures.answer content shows)
