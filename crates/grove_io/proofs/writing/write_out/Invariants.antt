-- The first `written` bytes are taken, no fault is forgotten, and what was sure for the room stays so for the rest of it.
use Rattle.std.proofs.Common.{◌≡◌, ℕ, ◌≤◌, ◌-◌, length, take}
use Rattle.grove_io.specs.Outside.{Took}
use Rattle.grove_io.proofs.writing.write_out.Given as goal

abbrev pub invariant-loop-written : goal.invariant-loop-written
invariant-loop-written g l = record {
  within : l.written ≤ length l.bytes;
  took : Took (g.K.Sink.taken l.initial.sink) (take l.written l.bytes) (g.K.Sink.taken l.sink);
  never_falls : g.K.Sink.faults l.initial.sink ≤ g.K.Sink.faults l.sink;
  stays_sure : (room : ℕ) → g.K.Sink.never_fails l.initial.sink room → length l.bytes ≤ room → g.K.Sink.never_fails l.sink (room - l.written);
  no_fault : (room : ℕ) → g.K.Sink.never_fails l.initial.sink room → length l.bytes ≤ room → g.K.Sink.faults l.sink ≡ g.K.Sink.faults l.initial.sink;
}

abbrev pub decreases-loop-written : goal.decreases-loop-written
decreases-loop-written g l = length l.bytes - l.written
