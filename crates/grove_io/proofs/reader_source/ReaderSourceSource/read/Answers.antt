-- What the tries up to the last one come to.
use Rattle.std.proofs.Common.{refl, rules}
use Rattle.grove_io.proofs.Tried.{one_more, then_succeeds, then_fails}
use Rattle.grove_io.proofs.reader_source.ReaderSourceSource.read.Goals as goal

pub returns-in-Ok-clause-tries : goal.returns-in-Ok-clause-tries
returns-in-Ok-clause-tries g c =
    then_succeeds g.R.Reader.answers (λ _. ⊥) c.args.self.now.reader c.loop-count.self.reader c.read_once.new.self c.args.self.now.faults c.loop-count.self.faults c.in-Ok.count
    c.loop-count.invariant.tries (c.in-Ok.ensures.answers) (λ none. none)

pub returns-then-ends_call-clause-tries : goal.returns-then-ends_call-clause-tries
returns-then-ends_call-clause-tries g c =
    rw c.ends_call.ensures.counted
    (then_fails g.R.Reader.answers (λ _. ⊥) c.args.self.now.reader c.loop-count.self.reader c.read_once.new.self c.args.self.now.faults c.loop-count.self.faults c.in-Err.error (record {})
    c.loop-count.invariant.tries c.in-Err.ensures.answers (c.if-ends_call.ensures.last refl))

pub loop-count-preserved : goal.loop-count-preserved
loop-count-preserved g c =
    record {
      keeps = search rules;
      never_falls = search rules;
      tries = rw c.ends_call.ensures.counted
          (one_more g.R.Reader.answers (λ _. ⊥) c.args.self.now.reader c.loop-count.self.reader c.read_once.new.self c.args.self.now.faults c.loop-count.self.faults c.in-Err.error
          c.loop-count.invariant.tries c.in-Err.ensures.answers (c.if-ends_call.ensures.again refl));
    }
