use Rattle.replica_core.proofs.Contents.{taken_joined, taken_in_turn}
use Rattle.replica_core.proofs.laws.edits_that_are_taken_are_joined.Goals as goal

pub returns-clause-joined : goal.returns-clause-joined
returns-clause-joined c = taken_joined

pub returns-clause-in_turn : goal.returns-clause-in_turn
returns-clause-in_turn c = taken_in_turn
