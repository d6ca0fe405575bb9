use Rattle.replica_core.proofs.replica.Replica.plan.Goals as goal

pub returns-clause-plan : goal.returns-clause-plan
returns-clause-plan c = c.planned.ensures.plan c.args.self.now c.view.ensures

pub returns-clause-edits : goal.returns-clause-edits
returns-clause-edits c = c.planned.ensures.edits c.args.self.now c.view.ensures

pub returns-clause-answer : goal.returns-clause-answer
returns-clause-answer c = c.planned.ensures.answer c.args.self.now c.view.ensures
