use Rattle.std.proofs.Common.{refl, ap}
use Rattle.std.specs.Prelude.{◌||◌}
use Rattle.grove_sorts.specs.declared.ctor.Ctor.TheVariants.{Num}
use Rattle.mark_step.specs.Node.{demanded_at}
use Rattle.judging.specs.Machine.{fresh}
use Rattle.judging.proofs.Kept.{frames_kept, contexts-itself}
use Rattle.plain_typing.proofs.Steps.{stands_at_once}
use Rattle.plain_typing.proofs.walking.judge_literal.Goals as goal

pub returns-clause-state : goal.returns-clause-state
returns-clause-state c = λ place frames nodes open_here is are noted.
    stands_at_once c.args.types.now c.close_literal.new.types c.args.ctxs.now (fresh (Num c.args.number) (demanded_at c.args.types.now c.args.ctxs.now c.args.demand)) c.in_ok-literal.literal c.args.walk.now _ place frames nodes
    c.in_ok-literal.ensures.kept c.requires.frames c.in_ok-literal.ensures.added c.in_ok-literal.ensures.given refl (ap (λ b. c.args.walk.now.has_mark || b) c.is_some.ensures) open_here is are noted

pub returns-clause-frames : goal.returns-clause-frames
returns-clause-frames c =
    frames_kept c.args.types.now c.close_literal.new.types c.args.ctxs.now c.args.ctxs.now c.in_ok-literal.ensures.kept (contexts-itself c.args.ctxs.now) c.args.walk.now.frames.items c.requires.frames
