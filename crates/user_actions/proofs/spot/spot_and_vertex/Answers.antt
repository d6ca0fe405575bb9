use Rattle.user_actions.proofs.SpotRows.{passed, two_fault_first, position_fault_of_two}
use Rattle.user_actions.proofs.spot.spot_and_vertex.Goals as goal

pub returns-in_err-vertex-clause-fault : goal.returns-in_err-vertex-clause-fault
returns-in_err-vertex-clause-fault g c =
    passed _ c.from_residual.result c.in_err-vertex.field-0.0 c.from_residual.ensures.1 (two_fault_first (g.V.PlanView.states c.args.view.now) c.args.place c.args.name c.in_err-vertex.field-0.0 c.in_err-vertex.ensures.fault)

pub returns-in_err-sort-clause-fault : goal.returns-in_err-sort-clause-fault
returns-in_err-sort-clause-fault g c =
    passed _ c.from_residual-in_err-sort.result c.in_err-sort.field-0.0 c.from_residual-in_err-sort.ensures.1
    (position_fault_of_two (g.V.PlanView.states c.args.view.now) c.args.place c.args.name c.in_ok-vertex.vertex c.in_ok-vertex.other c.in_err-sort.field-0.0 c.in_ok-vertex.ensures.first c.in_ok-vertex.ensures.second c.in_err-sort.ensures.fault)
