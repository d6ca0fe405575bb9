use Rattle.std.proofs.Common.{◌∙◌}
use Rattle.replica_core.proofs.PlansTold.{refused_stays}
use Rattle.replica_core.proofs.replica.Replica.act.Goals as goal

pub returns-clause-refused : goal.returns-clause-refused
returns-clause-refused g c = λ fault is.
    let told = refused_stays c.args.self.now c.args.author c.args.action.now c.in_ok-edits.edits c.in_ok-edits.answer fault c.in_ok-edits.ensures.plan is in
    (told.0, c.in_ok-apply_all.ensures.taken ∙ told.1)
