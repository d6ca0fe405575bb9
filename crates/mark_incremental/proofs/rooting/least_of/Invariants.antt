-- It is the least of the first vertex and those so far.
use Rattle.std.proofs.Common.{take}
use Rattle.mark_incremental.specs.Rooting.{IsLeastOf}
use Rattle.mark_incremental.proofs.rooting.least_of.Given as goal

abbrev pub invariant-loop-vertex : goal.invariant-loop-vertex
invariant-loop-vertex l = IsLeastOf l.first (take l.vertex-index l.others) l.least
