use Rattle.std.proofs.Common.{set, ap, ◌∙◌}
use Rattle.grove_sorts.specs.declared.ctor.Ctor.TheVariants.{Num}
use Rattle.mark_step.specs.Node.{demanded_at}
use Rattle.judging.specs.Frames.{frames_in}
use Rattle.judging.specs.Machine.{fresh}
use Rattle.judging.proofs.Kept.{frames_kept, contexts-itself}
use Rattle.mark_rules.proofs.Walks.{closes_at_once, still_added}
use Rattle.mark_rules.proofs.taking.settle_literal.Goals as goal

pub returns-clause-state : goal.returns-clause-state
returns-clause-state c = λ nodes.
    closes_at_once c.args.types.now c.close_literal.new.types c.args.ctxs.now c.args.place (fresh (Num c.args.number) (demanded_at c.args.types.now c.args.ctxs.now c.args.demand)) c.in_ok-closed.closed c.args.walk.now.frames.items
    nodes c.args.walk.now.added.items c.settle.new.added.items c.in_ok-closed.ensures.kept c.requires.walk.frames c.requires.walk.added c.in_ok-closed.ensures.added c.in_ok-closed.ensures.given
    (c.settle.ensures ∙ ap (set c.args.walk.now.added.items c.args.place) c.added_by.ensures)

pub returns-clause-walk : goal.returns-clause-walk
returns-clause-walk c = record {
  frames = frames_kept c.args.types.now c.close_literal.new.types c.args.ctxs.now c.args.ctxs.now c.in_ok-closed.ensures.kept (contexts-itself c.args.ctxs.now) (frames_in c.args.walk.now.frames.items) c.requires.walk.frames;
  added = still_added c.args.types.now c.close_literal.new.types c.args.place c.in_ok-closed.closed c.args.walk.now.added.items c.settle.new.added.items c.in_ok-closed.ensures.kept c.requires.walk.added c.in_ok-closed.ensures.numbers
      (c.settle.ensures ∙ ap (set c.args.walk.now.added.items c.args.place) c.added_by.ensures);
}
