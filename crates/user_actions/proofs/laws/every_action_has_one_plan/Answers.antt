use Rattle.user_actions.proofs.OnePlan.{one_plan, plan_along}
use Rattle.user_actions.proofs.SomePlan.{some_plan}
use Rattle.user_actions.proofs.laws.every_action_has_one_plan.Goals as goal

pub returns-clause-some : goal.returns-clause-some
returns-clause-some c = some_plan

pub returns-clause-one : goal.returns-clause-one
returns-clause-one c = one_plan

pub returns-clause-same : goal.returns-clause-same
returns-clause-same c = plan_along
