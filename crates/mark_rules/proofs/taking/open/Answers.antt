use Rattle.std.proofs.Common.{◌++◌, ◌∷◌, [], set, ap, ◌∙◌, arith}
use Rattle.judging.specs.declared.frame.Frame.TheVariants.{Open}
use Rattle.judging.specs.Frames.{frames_in}
use Rattle.judging.proofs.Kept.{frames_kept, contexts-itself}
use Rattle.judging.proofs.Frames.{placed}
use Rattle.mark_step.specs.Node.{demanded_at}
use Rattle.marking.specs.Added.{marked_nodes}
use Rattle.marking.specs.Reading.{meant_nodes}
use Rattle.mark_rules.proofs.Walks.{fresh_more, fresh_opens, fresh_closes, still_added}
use Rattle.mark_rules.proofs.taking.open.Goals as goal

pub returns-then-position_count-gt0-clause-state : goal.returns-then-position_count-gt0-clause-state
returns-then-position_count-gt0-clause-state c = λ nodes.
    fresh_opens c.args.types.now c.args.ctxs.now c.args.place c.fresh.result c.args.ctor.now (demanded_at c.args.types.now c.args.ctxs.now c.args.demand) c.args.walk.now.frames.items c.push_reserved.new.self.items
    (meant_nodes c.args.types.now (marked_nodes nodes c.args.walk.now.added.items)) (omega arith) (c.fresh.ensures.opened c.args.ctxs.now) c.fresh.ensures.left
    (c.push_reserved.ensures.items ∙ ap (λ fs. fs ++ (c.args.place, Open c.fresh.result) ∷ []) c.in_ok-reserve.ensures.items)

pub returns-then-position_count-gt0-clause-walk : goal.returns-then-position_count-gt0-clause-walk
returns-then-position_count-gt0-clause-walk c = record {
  frames = placed c.args.types.now c.args.ctxs.now c.args.walk.now.frames.items c.push_reserved.new.self.items c.args.place (Open c.fresh.result) c.requires.walk.frames
      (c.fresh.ensures.numbers c.args.ctxs.now c.requires.demand, fresh_more c.fresh.result c.args.ctor.now c.fresh.ensures.left (omega arith))
      (c.push_reserved.ensures.items ∙ ap (λ fs. fs ++ (c.args.place, Open c.fresh.result) ∷ []) c.in_ok-reserve.ensures.items);
  added = c.requires.walk.added;
}

pub returns-clause-state : goal.returns-clause-state
returns-clause-state c = λ nodes.
    fresh_closes c.args.types.now c.close.new.types c.args.ctxs.now c.args.place c.fresh-2.result c.args.ctor.now (demanded_at c.args.types.now c.args.ctxs.now c.args.demand) c.in_ok-closed.closed c.args.walk.now.frames.items
    nodes c.args.walk.now.added.items c.settle.new.added.items c.in_ok-closed.ensures.kept c.requires.walk.frames c.requires.walk.added (omega arith) (c.fresh-2.ensures.opened c.args.ctxs.now) c.fresh-2.ensures.left
    c.in_ok-closed.ensures.added c.in_ok-closed.ensures.given (c.settle.ensures ∙ ap (set c.args.walk.now.added.items c.args.place) c.added_by.ensures)

pub returns-clause-walk : goal.returns-clause-walk
returns-clause-walk c = record {
  frames = frames_kept c.args.types.now c.close.new.types c.args.ctxs.now c.args.ctxs.now c.in_ok-closed.ensures.kept (contexts-itself c.args.ctxs.now) (frames_in c.args.walk.now.frames.items) c.requires.walk.frames;
  added = still_added c.args.types.now c.close.new.types c.args.place c.in_ok-closed.closed c.args.walk.now.added.items c.settle.new.added.items c.in_ok-closed.ensures.kept c.requires.walk.added c.in_ok-closed.ensures.numbers
      (c.settle.ensures ∙ ap (set c.args.walk.now.added.items c.args.place) c.added_by.ensures);
}
