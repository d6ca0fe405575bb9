use Rattle.replica_core.proofs.ListsOf.{lists_are}
use Rattle.replica_core.proofs.PlansTold.{step_is_plan}
use Rattle.replica_core.proofs.laws.an_authors_step_is_the_plan.Goals as goal

pub returns-clause-plan : goal.returns-clause-plan
returns-clause-plan c = step_is_plan

pub returns-clause-lists : goal.returns-clause-lists
returns-clause-lists c = λ content of. lists_are content.edits of.in_order
