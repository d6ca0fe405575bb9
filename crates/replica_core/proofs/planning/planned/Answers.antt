use Rattle.std.proofs.Common.{List, [], sym, subst, ◌∙◌}
use Rattle.grove_edits.specs.declared.edit.Edit.{Edit}
use Rattle.grove_edits.specs.declared.answer.Answer.TheVariants.{Refused}
use Rattle.grove_edits.specs.Graph.{graph}
use Rattle.user_actions.specs.Plan.{IsPlan}
use Rattle.replica_core.proofs.Showing.{well_formed_shown, opening_shown, plan_shown, edits_shown, answer_shown}
use Rattle.replica_core.proofs.planning.planned.Goals as goal

pub plan-requires-clause-well_formed : goal.plan-requires-clause-well_formed
plan-requires-clause-well_formed g c =
    well_formed_shown (g.V.PlanView.states c.args.view.now) (g.V.PlanView.children c.args.view.now) (g.V.ParentOf.live c.args.view.now) (g.V.PlanView.opening c.args.view.now) c.requires.shown.0 c.requires.shown.1

pub plan-requires-clause-opening : goal.plan-requires-clause-opening
plan-requires-clause-opening g c =
    opening_shown (g.V.PlanView.states c.args.view.now) (g.V.PlanView.children c.args.view.now) (g.V.ParentOf.live c.args.view.now) (g.V.PlanView.opening c.args.view.now) c.requires.shown.0 c.requires.shown.1

pub returns-in-Ok-clause-plan : goal.returns-in-Ok-clause-plan
returns-in-Ok-clause-plan g c = λ content shows.
    plan_shown _ _ _ _ content shows c.args.author c.args.action.now c.in-Ok.field-0.edits c.in-Ok.field-0.answer c.in-Ok.ensures.planned

pub returns-in-Ok-clause-edits : goal.returns-in-Ok-clause-edits
returns-in-Ok-clause-edits g c = λ content shows.
    edits_shown _ _ _ _ content shows c.args.author c.args.action.now c.in-Ok.field-0.edits c.in-Ok.field-0.answer c.in-Ok.ensures.planned

pub returns-in-Ok-clause-answer : goal.returns-in-Ok-clause-answer
returns-in-Ok-clause-answer g c = λ content shows.
    answer_shown _ _ _ _ content shows c.args.author c.args.action.now c.in-Ok.field-0.edits c.in-Ok.field-0.answer c.in-Ok.ensures.planned

pub returns-in-Err-Refused-clause-plan : goal.returns-in-Err-Refused-clause-plan
returns-in-Err-Refused-clause-plan g c = λ content shows.
    subst (λ (es : List Edit). IsPlan (graph content.edits) content.opening c.args.author c.args.action.now es (Refused c.in-Err-Refused.fault)) (sym c.new.ensures.empty)
    (plan_shown _ _ _ _ content shows c.args.author c.args.action.now [] (Refused c.in-Err-Refused.fault) (rw c.in-Err-Refused.field-0-is at c.in-Err-Refused.ensures.refused))

pub returns-in-Err-Refused-clause-edits : goal.returns-in-Err-Refused-clause-edits
returns-in-Err-Refused-clause-edits g c = λ content shows.
    c.new.ensures.empty
    ∙ edits_shown _ _ _ _ content shows c.args.author c.args.action.now [] (Refused c.in-Err-Refused.fault) (rw c.in-Err-Refused.field-0-is at c.in-Err-Refused.ensures.refused)

pub returns-in-Err-Refused-clause-answer : goal.returns-in-Err-Refused-clause-answer
returns-in-Err-Refused-clause-answer g c = λ content shows.
    answer_shown _ _ _ _ content shows c.args.author c.args.action.now [] (Refused c.in-Err-Refused.fault) (rw c.in-Err-Refused.field-0-is at c.in-Err-Refused.ensures.refused)
