use Rattle.std.proofs.Common.{◌+◌, suc, refl, sym, ◌∙◌, arith}
use Rattle.unicycle_roots.proofs.Rounds.{root_from_found_back, no_root_from_no_cycle, step_from_greater, tortoise_goes, no_root_from_same, after_round}
use Rattle.unicycle_roots.proofs.cycle_root.is_cycle_root.Goals as goal

pub returns-in-Back-clause-root : goal.returns-in-Back-clause-root
returns-in-Back-clause-root g c =
    let after = c.loop-above.invariant in
    sym (root_from_found_back (g.P.ParentOf.live c.args.parents.now) c.args.vertex.now c.loop-above.hare (after.k + after.k) after.round.hare_at (sym c.in-Back.ensures.found) after.round.greater)

pub returns-in-ToNoCycle-clause-root : goal.returns-in-ToNoCycle-clause-root
returns-in-ToNoCycle-clause-root g c =
    let after = c.loop-above.invariant in
    sym (no_root_from_no_cycle (g.P.ParentOf.live c.args.parents.now) c.args.vertex.now c.loop-above.hare (after.k + after.k) after.round.hare_at (sym c.in-ToNoCycle.ensures.found) after.round.greater)

pub returns-in-Back-step_up-clause-root : goal.returns-in-Back-step_up-clause-root
returns-in-Back-step_up-clause-root g c =
    let after = c.loop-above.invariant in
    let s = step_from_greater (g.P.ParentOf.live c.args.parents.now) c.args.vertex.now c.loop-above.hare c.in-ToGreater.above (after.k + after.k) after.round.hare_at (sym c.in-ToGreater.ensures.found) after.round.greater in
    sym (root_from_found_back (g.P.ParentOf.live c.args.parents.now) c.args.vertex.now c.in-ToGreater.above (suc (after.k + after.k)) s.at (sym c.in-Back-step_up.ensures.found) s.greater)

pub returns-in-ToNoCycle-step_up-clause-root : goal.returns-in-ToNoCycle-step_up-clause-root
returns-in-ToNoCycle-step_up-clause-root g c =
    let after = c.loop-above.invariant in
    let s = step_from_greater (g.P.ParentOf.live c.args.parents.now) c.args.vertex.now c.loop-above.hare c.in-ToGreater.above (after.k + after.k) after.round.hare_at (sym c.in-ToGreater.ensures.found) after.round.greater in
    sym (no_root_from_no_cycle (g.P.ParentOf.live c.args.parents.now) c.args.vertex.now c.in-ToGreater.above (suc (after.k + after.k)) s.at (sym c.in-ToNoCycle-step_up.ensures.found) s.greater)

pub returns-in-None-clause-root : goal.returns-in-None-clause-root
returns-in-None-clause-root g c =
    let after = c.loop-above.invariant in
    absurd (tortoise_goes (g.P.ParentOf.live c.args.parents.now) c.args.vertex.now c.loop-above.hare c.loop-above.tortoise c.in-ToGreater.above c.in-ToGreater-step_up.above after.k after.round
    (sym c.in-ToGreater.ensures.found) (sym c.in-ToGreater-step_up.ensures.found) (sym c.in-None.ensures.above))

pub returns-in-None-clause-ticks : goal.returns-in-None-clause-ticks
returns-in-None-clause-ticks g c =
    let after = c.loop-above.invariant in
    absurd (tortoise_goes (g.P.ParentOf.live c.args.parents.now) c.args.vertex.now c.loop-above.hare c.loop-above.tortoise c.in-ToGreater.above c.in-ToGreater-step_up.above after.k after.round
    (sym c.in-ToGreater.ensures.found) (sym c.in-ToGreater-step_up.ensures.found) (sym c.in-None.ensures.above))

pub returns-then-is_same_vertex-clause-root : goal.returns-then-is_same_vertex-clause-root
returns-then-is_same_vertex-clause-root g c =
    let after = c.loop-above.invariant in
    sym (no_root_from_same (g.P.ParentOf.live c.args.parents.now) c.args.vertex.now c.loop-above.hare c.loop-above.tortoise c.in-ToGreater.above c.in-ToGreater-step_up.above c.in-Some.above after.k after.round
    (sym c.in-ToGreater.ensures.found) (sym c.in-ToGreater-step_up.ensures.found) (sym c.in-Some.ensures.above) (sym c.is_same_vertex.ensures ∙ c.if-is_same_vertex.true))

pub loop-above-preserved : goal.loop-above-preserved
loop-above-preserved g c =
    after_round (g.P.ParentOf.live c.args.parents.now) c.args.vertex.now c.loop-above.hare c.loop-above.tortoise c.in-ToGreater.above c.in-ToGreater-step_up.above c.in-Some.above
    c.args.steps.now c.loop-above.steps c.vertex_above.new.steps c.loop-above.invariant
    (sym c.in-ToGreater.ensures.found) (sym c.in-ToGreater-step_up.ensures.found) (sym c.in-Some.ensures.above) (sym c.is_same_vertex.ensures ∙ c.if-is_same_vertex.false)
    (omega (arith, c.in-ToGreater.ensures.ticks_where_greater c.in-ToGreater.above refl, c.in-ToGreater-step_up.ensures.ticks_where_greater c.in-ToGreater-step_up.above refl, c.in-Some.ensures.ticks_where_above))
