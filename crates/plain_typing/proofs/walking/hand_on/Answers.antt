use Rattle.std.proofs.Common.{◌≡◌, Some, refl}
use Rattle.judging.proofs.Kept.{types-then}
use Rattle.judging.proofs.Frames.{rest_are, off_is}
use Rattle.plain_typing.proofs.Steps.{stands_passed}
use Rattle.plain_typing.proofs.walking.hand_on.Goals as goal

pub pass-requires-clause-frames : goal.pass-requires-clause-frames
pass-requires-clause-frames c = rest_are c.loop-pending.types c.args.ctxs.now c.loop-pending.walk.frames.items c.pop.new.self.items c.in-Some-pop.frame c.in-Some-pop.ensures.items c.loop-pending.invariant.frames

pub pass-requires-clause-frame : goal.pass-requires-clause-frame
pass-requires-clause-frame c = off_is c.loop-pending.types c.args.ctxs.now c.loop-pending.walk.frames.items c.pop.new.self.items c.in-Some-pop.frame c.in-Some-pop.ensures.items c.loop-pending.invariant.frames

pub loop-pending-preserved : goal.loop-pending-preserved
loop-pending-preserved c =
    let is : c.loop-pending.pending ≡ Some c.in-Some.given = cc in
    record {
      frames = c.in_ok-pending.ensures.frames;
      given = c.in_ok-pending.ensures.given;
      state = λ s stands. stands_passed c.loop-pending.types c.pass.new.types c.args.ctxs.now c.loop-pending.pending _ c.in-Some.given c.in-Some-pop.frame c.loop-pending.walk (record { frames = c.pop.new.self; has_mark = c.loop-pending.walk.has_mark }) c.pass.new.walk
          is c.in-Some-pop.ensures.items refl c.in_ok-pending.ensures.state s (c.loop-pending.invariant.state s stands);
      kept = types-then c.args.types.now c.loop-pending.types c.pass.new.types c.loop-pending.invariant.kept c.in_ok-pending.ensures.kept;
    }
