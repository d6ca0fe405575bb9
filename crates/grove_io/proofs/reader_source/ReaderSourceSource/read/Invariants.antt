-- The reader keeps its bytes, the count of faults does not fall, and what the tries from here on come to, all of them come to.
use Rattle.std.proofs.Common.{◌≤◌, ◌-◌, ◌^◌}
use Rattle.std.specs.Io.KnownBytes.{Keeps}
use Rattle.grove_io.proofs.Tried.{LeadsTo}
use Rattle.grove_io.proofs.reader_source.ReaderSourceSource.read.Given as goal

abbrev pub invariant-loop-count : goal.invariant-loop-count
invariant-loop-count g l =
    record {
      keeps : Keeps (g.R.Read.remaining l.initial.self.reader) (g.R.Read.remaining l.self.reader);
      never_falls : l.initial.self.faults ≤ l.self.faults;
      tries : LeadsTo g.R.Reader.answers (λ _. ⊥) l.initial.self.reader l.initial.self.faults l.self.reader l.self.faults;
    }

abbrev pub decreases-loop-count : goal.decreases-loop-count
decreases-loop-count g l = 2 ^ 64 - l.self.faults
