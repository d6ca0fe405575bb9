use Rattle.grove_decompose.proofs.Rounds.{IsRounding, way_left}
use Rattle.grove_decompose.proofs.cycle.root_of_cycle.Given as goal

abbrev pub invariant-loop-above : goal.invariant-loop-above
invariant-loop-above l = IsRounding l.table l.entry l.at l.least

abbrev pub decreases-loop-above : goal.decreases-loop-above
decreases-loop-above l = way_left l.table l.entry l.at
