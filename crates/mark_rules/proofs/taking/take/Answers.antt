use Rattle.std.proofs.Common.{◌-◌, List, length, ℕ, ap, sym, ◌∙◌}
use Rattle.std.specs.Prelude.{slice_get}
use Rattle.std.specs.Option.{option_map}
use Rattle.grove_terms.specs.Lent.{node_of}
use Rattle.judging.specs.declared.frame.Frame.{Frame}
use Rattle.judging.specs.Frames.{frames_in, demanded_of, IsFrameOf}
use Rattle.judging.proofs.Results.{if_some_of}
use Rattle.judging.proofs.Frames.{last_is, last_in, last_demands}
use Rattle.mark_rules.proofs.Kept.{walk_kept}
use Rattle.mark_rules.proofs.Walks.{on_ok_next, took}
use Rattle.mark_rules.proofs.taking.take.Goals as goal

pub demand_next-requires : goal.demand_next-requires
demand_next-requires c =
    if_some_of _ (IsFrameOf c.args.types.now c.args.ctxs.now) c.innermost.result _
    (c.innermost.ensures ∙ ap (λ (fs : List (ℕ × Frame)). option_map (λ f. f.1) (slice_get fs (length fs - 1))) c.deref.ensures.value ∙ sym (last_in c.args.walk.now.frames.items))
    (last_is c.args.types.now c.args.ctxs.now (frames_in c.args.walk.now.frames.items) c.requires.walk.frames)

pub begin-requires-clause-walk : goal.begin-requires-clause-walk
begin-requires-clause-walk c =
    walk_kept c.args.types.now c.demand_next.new.types c.args.ctxs.now c.demand_next.new.ctxs c.in_ok-demand.ensures.types c.in_ok-demand.ensures.contexts c.args.walk.now c.requires.walk

pub returns-clause-state : goal.returns-clause-state
returns-clause-state c =
    on_ok_next c.hand_on.result _ _ _ c.hand_on.ensures.state
    (λ nodes next.
    c.in_ok-given.ensures.state nodes next
    ∙ took c.args.types.now c.demand_next.new.types c.args.ctxs.now c.demand_next.new.ctxs nodes c.args.walk.now (node_of c.args.node.now) _ c.in_ok-demand.ensures.types c.in_ok-demand.ensures.contexts c.requires.walk
    (c.in_ok-demand.ensures.demand
    ∙ ap (demanded_of c.args.types.now c.args.ctxs.now) (c.innermost.ensures ∙ ap (λ (fs : List (ℕ × Frame)). option_map (λ f. f.1) (slice_get fs (length fs - 1))) c.deref.ensures.value)
    ∙ last_demands c.args.types.now c.args.ctxs.now c.args.walk.now.frames.items))
