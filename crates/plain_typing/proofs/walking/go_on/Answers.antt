use Rattle.std.proofs.Common.{ap, refl, arith}
use Rattle.std.specs.Prelude.{◌||◌}
use Rattle.judging.proofs.Kept.{frames_kept, contexts-itself}
use Rattle.judging.proofs.Frames.{framed}
use Rattle.plain_typing.proofs.Steps.{stands_open, stands_closed}
use Rattle.plain_typing.proofs.walking.go_on.Goals as goal

pub returns-then-vertex-position_count-clause-state : goal.returns-then-vertex-position_count-clause-state
returns-then-vertex-position_count-clause-state c = λ place frames nodes open_here is are noted.
    stands_open c.args.types.now c.args.ctxs.now c.args.vertex.now c.args.walk.now _ place frames nodes (omega arith) c.in_ok-push.ensures.items refl open_here is are noted

pub returns-then-vertex-position_count-clause-frames : goal.returns-then-vertex-position_count-clause-frames
returns-then-vertex-position_count-clause-frames c =
    framed c.args.types.now c.args.ctxs.now c.args.walk.now.frames.items c.push.new.self.items _ c.requires.frames (c.requires.vertex, omega arith) c.in_ok-push.ensures.items

pub returns-clause-state : goal.returns-clause-state
returns-clause-state c = λ place frames nodes open_here is are noted.
    stands_closed c.args.types.now c.close.new.types c.args.ctxs.now c.args.vertex.now c.in_ok-closed.closed c.args.walk.now _ place frames nodes c.in_ok-closed.ensures.kept c.requires.frames (omega arith)
    c.in_ok-closed.ensures.added c.in_ok-closed.ensures.given refl (ap (λ b. c.args.walk.now.has_mark || b) c.is_some.ensures) open_here is are noted

pub returns-clause-frames : goal.returns-clause-frames
returns-clause-frames c = frames_kept c.args.types.now c.close.new.types c.args.ctxs.now c.args.ctxs.now c.in_ok-closed.ensures.kept (contexts-itself c.args.ctxs.now) c.args.walk.now.frames.items c.requires.frames
