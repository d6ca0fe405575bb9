use Rattle.user_actions.proofs.SpotRows.{passed, sort_fault_first}
use Rattle.user_actions.proofs.spot.spot_of_sort.Goals as goal

pub returns-in_err-check_sort-clause-fault : goal.returns-in_err-check_sort-clause-fault
returns-in_err-check_sort-clause-fault g c =
    passed _ c.from_residual-in_err-check_sort.result c.in_err-check_sort.field-0.0 c.from_residual-in_err-check_sort.ensures.1
    (sort_fault_first (g.V.PlanView.states c.args.view.now) c.args.place c.in_ok-spot.spot c.args.sort c.in_err-check_sort.field-0.0 c.in_ok-spot.ensures.spot c.in_err-check_sort.ensures.fault)
