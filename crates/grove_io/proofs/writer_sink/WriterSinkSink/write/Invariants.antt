-- The writer keeps its bytes, the count of faults does not fall, and what the tries from here on come to, all of them come to.
use Rattle.std.proofs.Common.{◌≤◌, ◌-◌, ◌^◌}
use Rattle.std.specs.Io.KnownBytes.{Keeps}
use Rattle.grove_io.specs.Tries.{TakesNothing}
use Rattle.grove_io.proofs.Tried.{LeadsTo}
use Rattle.grove_io.proofs.writer_sink.WriterSinkSink.write.Given as goal

abbrev pub invariant-loop-count : goal.invariant-loop-count
invariant-loop-count g l =
    record {
      keeps : Keeps (g.W.Write.contents l.initial.self.writer) (g.W.Write.contents l.self.writer);
      never_falls : l.initial.self.faults ≤ l.self.faults;
      tries : LeadsTo g.W.Writer.answers (TakesNothing l.piece) l.initial.self.writer l.initial.self.faults l.self.writer l.self.faults;
    }

abbrev pub decreases-loop-count : goal.decreases-loop-count
decreases-loop-count g l = 2 ^ 64 - l.self.faults
