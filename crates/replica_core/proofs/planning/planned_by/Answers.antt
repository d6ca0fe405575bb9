use Rattle.std.proofs.Common.{◌≡◌, sym, ap, subst, ◌∙◌}
use Rattle.std.specs.Prelude.{IfOk}
use Rattle.grove_edits.specs.declared.actor.Actor.{Actor}
use Rattle.user_actions.specs.Plan.{Planned}
use Rattle.replica_core.specs.Plain.{as_edits}
use Rattle.replica_core.specs.Step.{plan_by}
use Rattle.replica_core.proofs.PlansTold.{acts}
use Rattle.replica_core.proofs.planning.planned_by.Goals as goal

pub returns-in-Author-clause-edits : goal.returns-in-Author-clause-edits
returns-in-Author-clause-edits g c = λ content shows.
    subst (λ (p : Planned). IfOk c.planned.result (λ made. made.0 ≡ as_edits p.edits))
    (sym (ap (λ (actor : Actor). plan_by content actor c.args.action.now) c.in-Author.is ∙ acts content c.in-Author.author c.args.action.now c.if-author-gt0.true)) (c.planned.ensures.edits content shows)

pub returns-in-Author-clause-answer : goal.returns-in-Author-clause-answer
returns-in-Author-clause-answer g c = λ content shows.
    subst (λ (p : Planned). IfOk c.planned.result (λ made. made.1 ≡ p.answer))
    (sym (ap (λ (actor : Actor). plan_by content actor c.args.action.now) c.in-Author.is ∙ acts content c.in-Author.author c.args.action.now c.if-author-gt0.true)) (c.planned.ensures.answer content shows)
