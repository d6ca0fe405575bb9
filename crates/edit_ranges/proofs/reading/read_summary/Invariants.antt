use Rattle.std.proofs.Common.{◌≡◌, ◌++◌, true, length}
use Rattle.edit_ranges.specs.Ranges.{are_ranges}
use Rattle.edit_ranges.specs.Text.{summary_text}
use Rattle.edit_ranges.proofs.reading.read_summary.Given as goal

abbrev pub invariant-loop-line : goal.invariant-loop-line
invariant-loop-line l = record {
  in_order : are_ranges l.ranges.items ≡ true;
  parts : l.fn.text ≡ summary_text l.ranges.items ++ l.rest;
}

abbrev pub decreases-loop-line : goal.decreases-loop-line
decreases-loop-line l = length l.rest
