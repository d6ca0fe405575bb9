use Rattle.user_actions.proofs.SpotRows.{passed, vertex_fault_first, position_fault_first}
use Rattle.user_actions.proofs.spot.spot_at.Goals as goal

pub returns-in_err-vertex-clause-fault : goal.returns-in_err-vertex-clause-fault
returns-in_err-vertex-clause-fault g c =
    passed _ c.from_residual.result c.in_err-vertex.field-0.0 c.from_residual.ensures.1 (vertex_fault_first (g.V.PlanView.states c.args.view.now) c.args.place c.in_err-vertex.field-0.0 c.in_err-vertex.ensures.fault)

pub returns-in_err-sort-clause-fault : goal.returns-in_err-sort-clause-fault
returns-in_err-sort-clause-fault g c =
    passed _ c.from_residual-in_err-sort.result c.in_err-sort.field-0.0 c.from_residual-in_err-sort.ensures.1
    (position_fault_first (g.V.PlanView.states c.args.view.now) c.args.place c.in_ok-vertex.vertex c.in_err-sort.field-0.0 c.in_ok-vertex.ensures.one c.in_err-sort.ensures.fault)
