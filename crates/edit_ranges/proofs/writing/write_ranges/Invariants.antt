use Rattle.std.proofs.Common.{◌≡◌, ◌++◌, length, take}
use Rattle.edit_ranges.specs.Text.{summary_text}
use Rattle.edit_ranges.proofs.writing.write_ranges.Given as goal

abbrev pub invariant-loop-range : goal.invariant-loop-range
invariant-loop-range l = record {
  written : l.out.items ≡ l.fn.out.items ++ summary_text (take l.range-index l.ranges);
  start : l.start ≡ length l.fn.out.items;
}
