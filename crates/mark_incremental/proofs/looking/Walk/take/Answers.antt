-- A child that is not judged again gives what it gives to the vertex above it.
use Rattle.std.proofs.Common.{◌∷◌, drop, arith, None, Some, subst}
use Rattle.std.specs.Prelude.{reverse}
use Rattle.grove_edits.specs.declared.vertex.Vertex.{Vertex}
use Rattle.live_graph.specs.Live.{live}
use Rattle.mark_incremental.specs.Looking.{on, IsFound}
use Rattle.mark_incremental.proofs.Steps.{passed, first_is}
use Rattle.mark_incremental.proofs.Ticks.{some_left, counted_past, taken_moved}
use Rattle.mark_incremental.proofs.Paid.{paid_now}
use Rattle.mark_incremental.proofs.looking.Walk.take.Goals as goal

pub returns-in-Some-clause-way : goal.returns-in-Some-clause-way
returns-in-Some-clause-way g c = λ from before made of_made way.
    passed (live c.args.self.now.graph.now) c.args.self.now.well_formed c.args.types.now c.args.ctxs.now c.args.self.now.records.now (on c.args.self.now.whole c.args.self.now.passed.now) from before
    c.args.innermost.now c.accept.new.frame (reverse c.args.outer.now.items) made c.args.edge.now (drop 1 c.args.innermost.now.left) c.in-Some.given
    (first_is c.args.innermost.now.left c.args.edge.now c.requires.first)
    (subst (λ (v : Vertex). IsFound (live c.args.self.now.graph.now) c.args.types.now c.args.ctxs.now c.args.self.now.records.now (on c.args.self.now.whole c.args.self.now.passed.now) c.args.innermost.now.demand v (Some c.in-Some.given)) c.target.ensures c.in-Some.ensures.found)
    (c.accept.ensures.accepted (some_left c.args.innermost.now.left c.args.edge.now c.requires.first)) way

pub returns-in-Some-clause-frames : goal.returns-in-Some-clause-frames
returns-in-Some-clause-frames g c = (c.accept.ensures.numbers c.args.ctxs.now c.requires.frames.0, c.requires.frames.1)

pub returns-in-Some-clause-counted : goal.returns-in-Some-clause-counted
returns-in-Some-clause-counted g c = λ start paid made counted.
    let moved = taken_moved (live c.args.self.now.graph.now) c.args.innermost.now c.accept.new.frame (reverse c.args.outer.now.items) c.accept.ensures.moved in
    counted_past (live c.args.self.now.graph.now) start paid c.args.innermost.now (reverse c.args.outer.now.items) (c.accept.new.frame ∷ reverse c.args.outer.now.items) made c.args.steps.now c.look.new.steps
    (some_left c.args.innermost.now.left c.args.edge.now c.requires.first) moved.costs moved.weighs c.look.ensures.ticks counted

pub returns-in-None-clause-counted : goal.returns-in-None-clause-counted
returns-in-None-clause-counted g c = λ start paid made counted. c.descend.ensures.counted start paid c.args.steps.now made c.look.ensures.ticks counted

pub returns-in-Some-clause-paid : goal.returns-in-Some-clause-paid
returns-in-Some-clause-paid g c = λ from before made start paid way counted.
    let some = some_left c.args.innermost.now.left c.args.edge.now c.requires.first in
    paid_now (live c.args.self.now.graph.now) c.args.types.now c.args.ctxs.now c.args.self.now.records.now (on c.args.self.now.whole c.args.self.now.passed.now) from before made start paid c.args.steps.now c.look.new.steps (c.args.innermost.now ∷ reverse c.args.outer.now.items) way counted
    (omega (arith, some, c.look.ensures.ticks))

pub returns-in-None-clause-paid : goal.returns-in-None-clause-paid
returns-in-None-clause-paid g c = λ from before made start paid way counted. c.descend.ensures.paid from before made start paid c.args.steps.now c.look.ensures.ticks way counted

pub descend-requires-clause-found : goal.descend-requires-clause-found
descend-requires-clause-found g c =
    subst (λ (v : Vertex). IsFound (live c.args.self.now.graph.now) c.args.types.now c.args.ctxs.now c.args.self.now.records.now (on c.args.self.now.whole c.args.self.now.passed.now) c.args.innermost.now.demand v None) c.target.ensures c.in-None.ensures.found
