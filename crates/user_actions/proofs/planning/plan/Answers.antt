use Rattle.user_actions.proofs.Told.{plan_told}
use Rattle.user_actions.proofs.planning.plan.Goals as goal

pub returns : goal.returns
returns g c =
    let told = plan_told (g.V.PlanView.states c.args.view.now) (g.V.PlanView.opening c.args.view.now) c.args.author c.args.action.now c.known.ensures.finite c.known.ensures.in_order c.plan_action.result c.plan_action.ensures in
    record { planned = told.0; accepted = told.1; refused = told.2 }
