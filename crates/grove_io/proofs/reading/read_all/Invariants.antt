-- The first `filled` bytes of the text were given, no fault is forgotten, and a source that was sure stays so.
use Rattle.std.proofs.Common.{◌≡◌, ◌≤◌, ◌+◌, ◌-◌, take, vec_len, vec_items}
use Rattle.grove_io.specs.Outside.{Gave}
use Rattle.grove_io.proofs.reading.read_all.Given as goal

abbrev pub invariant-loop-filled : goal.invariant-loop-filled
invariant-loop-filled g l = record {
  within : l.filled ≤ vec_len l.text;
  most : vec_len l.text ≤ l.limit + 1;
  gave : Gave (g.S.Source.left l.initial.source) (take l.filled (vec_items l.text)) (g.S.Source.left l.source);
  never_falls : g.S.Source.faults l.initial.source ≤ g.S.Source.faults l.source;
  stays_sure : g.S.Source.never_fails l.initial.source → g.S.Source.never_fails l.source;
  no_fault : g.S.Source.never_fails l.initial.source → g.S.Source.faults l.source ≡ g.S.Source.faults l.initial.source;
}

abbrev pub decreases-loop-filled : goal.decreases-loop-filled
decreases-loop-filled g l = l.limit + 1 - l.filled
