use Rattle.grove_editor.proofs.CaughtUp.{both_caught_up, caught_up, in_turn}
use Rattle.grove_editor.proofs.laws.who_caught_up_has_the_join.Goals as goal

pub returns-clause-one : goal.returns-clause-one
returns-clause-one c = caught_up

pub returns-clause-both : goal.returns-clause-both
returns-clause-both c = both_caught_up

pub returns-clause-in_turn : goal.returns-clause-in_turn
returns-clause-in_turn c = in_turn
