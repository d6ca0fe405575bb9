use Rattle.std.proofs.Common.{Some, ap, sym, ◌∙◌}
use Rattle.graph_words.proofs.Meetings.{meeting_entered, meeting_next, ended_at_none, ended_at_itself, ended_at_earlier, first_entered, round_within, fewer_entered, ticks_entered}
use Rattle.unicycle_roots.proofs.met.walk_up.Goals as goal

pub returns-then-walk-number-clause-ended : goal.returns-then-walk-number-clause-ended
returns-then-walk-number-clause-ended g c =
    ended_at_itself (g.P.ParentOf.live c.args.parents.now) c.args.start.now c.loop-walk.at c.args.number c.args.met.now.entries c.loop-walk.met.entries c.args.steps.now c.loop-walk.steps
    c.loop-walk.invariant (sym c.in-Some.ensures ∙ ap Some c.if-walk-number.true)

pub returns-else-walk-number-clause-ended : goal.returns-else-walk-number-clause-ended
returns-else-walk-number-clause-ended g c =
    ended_at_earlier (g.P.ParentOf.live c.args.parents.now) c.args.start.now c.loop-walk.at c.args.number c.in-Some.walk c.args.met.now.entries c.loop-walk.met.entries c.args.steps.now c.loop-walk.steps
    c.loop-walk.invariant (sym c.in-Some.ensures) c.if-walk-number.false

pub returns-in_default-vertex_above-clause-start : goal.returns-in_default-vertex_above-clause-start
returns-in_default-vertex_above-clause-start g c =
    let live = g.P.ParentOf.live c.args.parents.now in
    let entered = meeting_entered live c.args.start.now c.loop-walk.at c.args.number c.args.met.now.entries c.loop-walk.met.entries c.enter.new.met.entries c.args.steps.now c.loop-walk.steps
    c.loop-walk.invariant (sym c.in_default.ensures) c.in_ok-enter.ensures in
    first_entered live c.args.start.now c.loop-walk.at c.args.number c.args.met.now.entries c.enter.new.met.entries c.args.steps.now c.loop-walk.steps entered

pub returns-in_default-vertex_above-clause-kept : goal.returns-in_default-vertex_above-clause-kept
returns-in_default-vertex_above-clause-kept g c =
    let live = g.P.ParentOf.live c.args.parents.now in
    let entered = meeting_entered live c.args.start.now c.loop-walk.at c.args.number c.args.met.now.entries c.loop-walk.met.entries c.enter.new.met.entries c.args.steps.now c.loop-walk.steps
    c.loop-walk.invariant (sym c.in_default.ensures) c.in_ok-enter.ensures in
    entered.kept

pub returns-in_default-vertex_above-clause-ended : goal.returns-in_default-vertex_above-clause-ended
returns-in_default-vertex_above-clause-ended g c =
    let live = g.P.ParentOf.live c.args.parents.now in
    let entered = meeting_entered live c.args.start.now c.loop-walk.at c.args.number c.args.met.now.entries c.loop-walk.met.entries c.enter.new.met.entries c.args.steps.now c.loop-walk.steps
    c.loop-walk.invariant (sym c.in_default.ensures) c.in_ok-enter.ensures in
    ended_at_none live c.args.start.now c.loop-walk.at c.args.number c.args.met.now.entries c.enter.new.met.entries c.args.steps.now c.loop-walk.steps entered (sym c.in_default-vertex_above.ensures.above)

pub loop-walk-preserved : goal.loop-walk-preserved
loop-walk-preserved g c =
    let live = g.P.ParentOf.live c.args.parents.now in
    let entered = meeting_entered live c.args.start.now c.loop-walk.at c.args.number c.args.met.now.entries c.loop-walk.met.entries c.enter.new.met.entries c.args.steps.now c.loop-walk.steps
    c.loop-walk.invariant (sym c.in_default.ensures) c.in_ok-enter.ensures in
    meeting_next live c.args.start.now c.loop-walk.at c.in-Some-vertex_above.above c.args.number c.args.met.now.entries c.enter.new.met.entries c.args.steps.now c.loop-walk.steps c.vertex_above.new.steps
    entered (sym c.in-Some-vertex_above.ensures.above) c.in-Some-vertex_above.ensures.ticks_where_above

pub returns-then-walk-number-clause-round : goal.returns-then-walk-number-clause-round
returns-then-walk-number-clause-round g c =
    round_within (g.P.ParentOf.live c.args.parents.now) c.args.start.now c.loop-walk.at c.args.number c.args.met.now.entries c.loop-walk.met.entries c.args.steps.now c.loop-walk.steps
    c.loop-walk.invariant (sym c.in-Some.ensures ∙ ap Some c.if-walk-number.true)

pub returns-in_default-vertex_above-clause-round : goal.returns-in_default-vertex_above-clause-round
returns-in_default-vertex_above-clause-round g c =
    let live = g.P.ParentOf.live c.args.parents.now in
    let entered = meeting_entered live c.args.start.now c.loop-walk.at c.args.number c.args.met.now.entries c.loop-walk.met.entries c.enter.new.met.entries c.args.steps.now c.loop-walk.steps
    c.loop-walk.invariant (sym c.in_default.ensures) c.in_ok-enter.ensures in
    fewer_entered live c.args.start.now c.loop-walk.at c.args.number c.args.met.now.entries c.enter.new.met.entries c.args.steps.now c.loop-walk.steps entered

pub returns-in_default-vertex_above-clause-ticks : goal.returns-in_default-vertex_above-clause-ticks
returns-in_default-vertex_above-clause-ticks g c =
    let live = g.P.ParentOf.live c.args.parents.now in
    let entered = meeting_entered live c.args.start.now c.loop-walk.at c.args.number c.args.met.now.entries c.loop-walk.met.entries c.enter.new.met.entries c.args.steps.now c.loop-walk.steps
    c.loop-walk.invariant (sym c.in_default.ensures) c.in_ok-enter.ensures in
    ticks_entered live c.args.start.now c.loop-walk.at c.args.number c.args.met.now.entries c.enter.new.met.entries c.args.steps.now c.loop-walk.steps c.vertex_above.new.steps entered
    c.in_default-vertex_above.ensures.ticks
