-- The innermost vertex is taken one step further.
use Rattle.std.proofs.Common.{◌≡◌, ◌<◌, ◌∷◌, length, ap, subst, arith}
use Rattle.std.specs.Prelude.{reverse}
use Rattle.grove_sorts.specs.Ctor.{positions}
use Rattle.live_graph.specs.Live.{live}
use Rattle.judging.specs.declared.frame.OpenVertex.{OpenVertex}
use Rattle.judging.proofs.Kept.{contexts-itself}
use Rattle.mark_incremental.specs.Looking.{on}
use Rattle.mark_incremental.specs.Walking.{still_open}
use Rattle.mark_incremental.proofs.Growth.{frames_kept, made_kept}
use Rattle.mark_incremental.proofs.Steps.{went_on, settled_up}
use Rattle.mark_incremental.proofs.Stack.{more_made}
use Rattle.mark_incremental.proofs.Ticks.{next_costs, counted_on, counted_up}
use Rattle.mark_incremental.proofs.Paid.{paid_now, paid_on}
use Rattle.mark_incremental.proofs.looking.Walk.step.Goals as goal

-- ---- a child is taken

pub returns-in-Some-clause-way : goal.returns-in-Some-clause-way
returns-in-Some-clause-way g c = λ from before way. c.in_ok-take.ensures.way from before c.args.made.now.items c.requires.made way

pub returns-in-Some-clause-made : goal.returns-in-Some-clause-made
returns-in-Some-clause-made g c =
    made_kept c.args.types.now c.take.new.types c.args.ctxs.now c.take.new.ctxs c.in_ok-take.ensures.types c.in_ok-take.ensures.contexts c.args.made.now.items c.requires.made

pub returns-in-Some-clause-counted : goal.returns-in-Some-clause-counted
returns-in-Some-clause-counted g c = λ start paid counted. c.in_ok-take.ensures.counted start paid c.args.made.now.items counted

-- ---- the next position is begun

pub returns-then-innermost-position_count-clause-way : goal.returns-then-innermost-position_count-clause-way
returns-then-innermost-position_count-clause-way g c = λ from before way.
    let some : c.args.innermost.now.state.next < length (positions c.args.innermost.now.state.ctor.now) = omega (arith, c.if-innermost-position_count.true, c.position_count.ensures) in
    went_on (live c.args.self.now.graph.now) c.args.self.now.well_formed c.args.types.now c.go_on.new.types c.args.ctxs.now c.go_on.new.ctxs c.in_ok-go_on.ensures.types c.in_ok-go_on.ensures.contexts
    c.args.self.now.records.now c.requires.records (on c.args.self.now.whole c.args.self.now.passed.now) from before c.args.innermost.now c.go_on.new.frame (reverse c.args.outer.now.items) c.args.made.now.items
    c.in_default.ensures.none (subst (λ ctor. c.args.innermost.now.state.next < length (positions ctor)) c.requires.frames.0.ctor some) c.requires.frames c.requires.made
    c.in_ok-go_on.ensures.was c.in_ok-go_on.ensures.vertex c.in_ok-go_on.ensures.filled c.in_ok-go_on.ensures.begun way

pub returns-then-innermost-position_count-clause-made : goal.returns-then-innermost-position_count-clause-made
returns-then-innermost-position_count-clause-made g c =
    made_kept c.args.types.now c.go_on.new.types c.args.ctxs.now c.go_on.new.ctxs c.in_ok-go_on.ensures.types c.in_ok-go_on.ensures.contexts c.args.made.now.items c.requires.made

pub returns-then-innermost-position_count-clause-frames : goal.returns-then-innermost-position_count-clause-frames
returns-then-innermost-position_count-clause-frames g c = (
  c.in_ok-go_on.ensures.numbers,
  frames_kept c.args.types.now c.go_on.new.types c.args.ctxs.now c.go_on.new.ctxs c.in_ok-go_on.ensures.types c.in_ok-go_on.ensures.contexts (reverse c.args.outer.now.items) c.requires.frames.1,
)

pub returns-then-innermost-position_count-clause-counted : goal.returns-then-innermost-position_count-clause-counted
returns-then-innermost-position_count-clause-counted g c = λ start paid counted.
    let ticks = c.in_ok-go_on.ensures.ticks in
    counted_on (live c.args.self.now.graph.now) start paid c.args.innermost.now c.go_on.new.frame (reverse c.args.outer.now.items) c.args.made.now.items c.args.steps.now c.go_on.new.steps c.in_ok-go_on.ensures.vertex
    (next_costs (live c.args.self.now.graph.now) c.args.types.now c.go_on.new.types c.args.ctxs.now c.go_on.new.ctxs c.go_on.new.frame c.in_ok-go_on.ensures.begun c.args.innermost.now c.in_ok-go_on.ensures.vertex
    (ap (λ (o : OpenVertex). o.next) c.in_ok-go_on.ensures.filled))
    (omega (arith, ticks)) counted

-- ---- the record of the vertex is made

pub returns-clause-way : goal.returns-clause-way
returns-clause-way g c = λ from before way.
    let within = c.requires.frames.0.state.filled.within in
    let whole : c.args.innermost.now.state.next ≡ length (positions c.args.innermost.now.state.ctor.now) = omega (arith, within, c.if-innermost-position_count.false, c.position_count.ensures) in
    settled_up (live c.args.self.now.graph.now) c.args.self.now.well_formed c.args.types.now c.settle.new.types c.args.ctxs.now c.args.ctxs.now c.in_ok-given.ensures.kept (contexts-itself c.args.ctxs.now)
    c.args.self.now.records.now c.requires.records (on c.args.self.now.whole c.args.self.now.passed.now) from before c.args.innermost.now (reverse c.args.outer.now.items) (still_open c.hand_on.result c.hand_on.new.innermost c.hand_on.new.outer.items) c.args.made.now.items
    c.settle.new.made.items c.in_ok-given.given c.in_default.ensures.none whole c.requires.frames c.requires.made c.in_ok-given.ensures.settled c.in_ok-given.ensures.given c.hand_on.ensures.handed way

pub returns-clause-made : goal.returns-clause-made
returns-clause-made g c =
    let settled = c.in_ok-given.ensures.settled in
    more_made c.settle.new.types c.args.ctxs.now c.args.made.now.items c.settle.new.made.items c.args.innermost.now.vertex.now settled.kept settled.behind
    (made_kept c.args.types.now c.settle.new.types c.args.ctxs.now c.args.ctxs.now c.in_ok-given.ensures.kept (contexts-itself c.args.ctxs.now) c.args.made.now.items c.requires.made) settled.numbers

pub returns-clause-frames : goal.returns-clause-frames
returns-clause-frames g c =
    c.hand_on.ensures.numbers c.args.ctxs.now
    (frames_kept c.args.types.now c.settle.new.types c.args.ctxs.now c.args.ctxs.now c.in_ok-given.ensures.kept (contexts-itself c.args.ctxs.now) (reverse c.args.outer.now.items) c.requires.frames.1)

pub returns-clause-counted : goal.returns-clause-counted
returns-clause-counted g c = λ start paid counted.
    let settled = c.in_ok-given.ensures.settled in
    let moved = c.hand_on.ensures.moved (live c.args.self.now.graph.now) in
    counted_up (live c.args.self.now.graph.now) start paid c.args.innermost.now (reverse c.args.outer.now.items) (still_open c.hand_on.result c.hand_on.new.innermost c.hand_on.new.outer.items) c.args.made.now.items c.settle.new.made.items settled.kept c.args.steps.now settled.behind
    moved.costs moved.weighs counted

-- ---- what was counted, also where memory runs out

pub returns-in_err-given-clause-paid : goal.returns-in_err-given-clause-paid
returns-in_err-given-clause-paid g c = λ from before start paid way counted.
    paid_now (live c.args.self.now.graph.now) c.args.types.now c.args.ctxs.now c.args.self.now.records.now (on c.args.self.now.whole c.args.self.now.passed.now) from before c.args.made.now.items start paid c.args.steps.now c.args.steps.now (c.args.innermost.now ∷ reverse c.args.outer.now.items) way counted (omega arith)

pub returns-clause-paid : goal.returns-clause-paid
returns-clause-paid g c = λ from before start paid way counted.
    paid_now (live c.args.self.now.graph.now) c.args.types.now c.args.ctxs.now c.args.self.now.records.now (on c.args.self.now.whole c.args.self.now.passed.now) from before c.args.made.now.items start paid c.args.steps.now c.args.steps.now (c.args.innermost.now ∷ reverse c.args.outer.now.items) way counted (omega arith)

pub returns-in_err-go_on-clause-paid : goal.returns-in_err-go_on-clause-paid
returns-in_err-go_on-clause-paid g c = λ from before start paid way counted.
    paid_on (live c.args.self.now.graph.now) c.args.types.now c.args.ctxs.now c.args.self.now.records.now (on c.args.self.now.whole c.args.self.now.passed.now) from before c.args.made.now.items start paid c.args.steps.now c.go_on.new.steps c.args.innermost.now (reverse c.args.outer.now.items) way counted c.go_on.ensures.at_most

pub returns-then-innermost-position_count-clause-paid : goal.returns-then-innermost-position_count-clause-paid
returns-then-innermost-position_count-clause-paid g c = λ from before start paid way counted.
    paid_on (live c.args.self.now.graph.now) c.args.types.now c.args.ctxs.now c.args.self.now.records.now (on c.args.self.now.whole c.args.self.now.passed.now) from before c.args.made.now.items start paid c.args.steps.now c.go_on.new.steps c.args.innermost.now (reverse c.args.outer.now.items) way counted c.go_on.ensures.at_most

pub returns-in_err-take-clause-paid : goal.returns-in_err-take-clause-paid
returns-in_err-take-clause-paid g c = λ from before start paid way counted. c.take.ensures.paid from before c.args.made.now.items start paid way counted

pub returns-in-Some-clause-paid : goal.returns-in-Some-clause-paid
returns-in-Some-clause-paid g c = λ from before start paid way counted. c.take.ensures.paid from before c.args.made.now.items start paid way counted
