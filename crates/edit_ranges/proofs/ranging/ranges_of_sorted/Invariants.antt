use Rattle.std.proofs.Common.{◌≡◌, ◌++◌, drop}
use Rattle.edit_ranges.specs.Facts.{ranges_from, ranges_of}
use Rattle.edit_ranges.proofs.ranging.ranges_of_sorted.Given as goal

abbrev pub invariant-loop-fact : goal.invariant-loop-fact
invariant-loop-fact l = l.ranges.items ++ ranges_from l.current (drop l.fact-index l.later) ≡ ranges_of l.fn.facts
