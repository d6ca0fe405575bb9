use Rattle.std.proofs.Common.{◌-◌, List, length, ap, ◌∙◌}
use Rattle.std.specs.Prelude.{slice_get}
use Rattle.grove_terms.specs.Lent.{node_of}
use Rattle.mark_step.specs.Node.{demanded_at}
use Rattle.judging.specs.declared.frame.Frame.{Frame}
use Rattle.judging.specs.Frames.{demanded_of, IsFrameOf}
use Rattle.judging.proofs.Kept.{frames_kept}
use Rattle.judging.proofs.Results.{if_some_of}
use Rattle.judging.proofs.Frames.{last_is}
use Rattle.plain_typing.proofs.Steps.{stands_taken}
use Rattle.plain_typing.proofs.walking.take.Goals as goal

pub demand_next-requires : goal.demand_next-requires
demand_next-requires c =
    if_some_of _ (IsFrameOf c.args.types.now c.args.ctxs.now) c.innermost.result _ (c.innermost.ensures ∙ ap (λ (fs : List Frame). slice_get fs (length fs - 1)) c.deref.ensures.value)
    (last_is c.args.types.now c.args.ctxs.now c.args.walk.now.frames.items c.requires.frames)

pub begin-requires-clause-frames : goal.begin-requires-clause-frames
begin-requires-clause-frames c =
    frames_kept c.args.types.now c.demand_next.new.types c.args.ctxs.now c.demand_next.new.ctxs c.in_ok-demand.ensures.types c.in_ok-demand.ensures.contexts c.args.walk.now.frames.items c.requires.frames

pub returns-clause-state : goal.returns-clause-state
returns-clause-state c =
    stands_taken c.args.types.now c.demand_next.new.types c.begin.new.types c.hand_on.new.types c.args.ctxs.now c.demand_next.new.ctxs (node_of c.args.node.now) (demanded_at c.demand_next.new.types c.demand_next.new.ctxs c.in_ok-demand.demand)
    c.in_ok-given.given c.args.walk.now c.begin.new.walk c.hand_on.new.walk c.hand_on.result c.in_ok-demand.ensures.types c.in_ok-demand.ensures.contexts c.requires.frames
    (c.in_ok-demand.ensures.demand
    ∙ ap (demanded_of c.args.types.now c.args.ctxs.now) (c.innermost.ensures ∙ ap (λ (fs : List Frame). slice_get fs (length fs - 1)) c.deref.ensures.value))
    c.in_ok-given.ensures.state c.hand_on.ensures.state
