use Rattle.std.proofs.Common.{List, ◌++◌, ap, ap₂, ◌∙◌}
use Rattle.grove_edits.specs.declared.edit.Edit.{Edit}
use Rattle.edit_runs.specs.Runs.{joined}
use Rattle.edit_runs.proofs.Runs.{joined-push}
use Rattle.edit_runs.proofs.gathering.GatheringMachine.step.Goals as goal

pub returns-clause-stepped : goal.returns-clause-stepped
returns-clause-stepped g c =
    ap joined c.in_ok-push.ensures.items ∙ joined-push c.self.inside.runs.items c.in_ok-share.field-0 ∙ ap₂ (λ (a b : List Edit). a ++ b) c.self.view_is c.in_ok-share.ensures
