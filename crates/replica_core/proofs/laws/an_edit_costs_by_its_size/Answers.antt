use Rattle.std.proofs.Common.{ap}
use Rattle.replica_core.specs.Cost.{edits_cost}
use Rattle.replica_core.proofs.Costs.{edit_cost-size, edits_cost-append, calls_cost-edits}
use Rattle.replica_core.proofs.laws.an_edit_costs_by_its_size.Goals as goal

pub returns-clause-edit : goal.returns-clause-edit
returns-clause-edit c = edit_cost-size

pub returns-clause-nothing : goal.returns-clause-nothing
returns-clause-nothing c = λ content actor command none. ap (edits_cost content) none

pub returns-clause-in_turn : goal.returns-clause-in_turn
returns-clause-in_turn c = edits_cost-append

pub returns-clause-calls : goal.returns-clause-calls
returns-clause-calls c = calls_cost-edits
