use Rattle.std.proofs.Common.{◌≡◌, ◌≤◌, ◌-◌, length, map, take}
use Rattle.std.specs.List.{AllByRecursion}
use Rattle.edit_runs.specs.Stretch.{edits_in}
use Rattle.edit_runs.specs.Runs.{joined, IsShort}
use Rattle.edit_runs.proofs.cutting.cut.Given as goal

-- the edits before the index are cut
pub record Cut (l : goal.Live-loop-from) : Type 0 where
  pub within : l.from ≤ length l.list
  pub whole : joined (map edits_in l.runs) ≡ take l.from l.list
  pub short : AllByRecursion IsShort (map edits_in l.runs)

abbrev pub invariant-loop-from : goal.invariant-loop-from
invariant-loop-from l = Cut l

abbrev pub decreases-loop-from : goal.decreases-loop-from
decreases-loop-from l = length l.list - l.from
