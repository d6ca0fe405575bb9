-- The child is opened on top of the vertex whose first child it is.
use Rattle.std.proofs.Common.{◌≡◌, ◌+◌, ◌≤◌, List, [], ◌∷◌, ◌++◌, drop, sym, ap, subst, ◌∙◌, arith}
use Rattle.std.specs.Prelude.{reverse}
use Rattle.grove_sorts.specs.Ctor.{positions}
use Rattle.grove_edits.specs.declared.vertex.Vertex.{Vertex}
use Rattle.live_graph.specs.Live.{live}
use Rattle.mark_step.specs.Node.{demanded_at}
use Rattle.judging.specs.Machine as machine
use Rattle.judging.specs.Frames.{opened_at, left_of}
use Rattle.mark_incremental.specs.declared.frame.Frame.{Frame}
use Rattle.mark_incremental.specs.Looking.{on}
use Rattle.mark_incremental.specs.Walking.{IsUnderWay, AreFramesOf}
use Rattle.mark_incremental.proofs.Growth.{frames_kept}
use Rattle.mark_incremental.proofs.Steps.{descended, first_is, on_top}
use Rattle.mark_incremental.specs.Ticks.{AreCounted, places_cost}
use Rattle.mark_incremental.proofs.Ticks.{some_left, fresh_row, fresh_costs, counted_down}
use Rattle.mark_incremental.proofs.Paid.{paid_down}
use Rattle.mark_incremental.proofs.looking.Walk.descend.Goals as goal

pub returns-clause-way : goal.returns-clause-way
returns-clause-way g c = λ from before made of_made way.
    let pushed : c.push.new.self.items ≡ c.args.outer.now.items ++ c.args.innermost.now ∷ [] = c.in_ok-push.ensures.items ∙ ap (λ (fr : Frame). c.args.outer.now.items ++ fr ∷ []) c.replace.ensures.value in
    let top : c.replace.new.dest ∷ reverse c.push.new.self.items ≡ c.in_ok-child.child ∷ c.args.innermost.now ∷ reverse c.args.outer.now.items =
    ap (λ (fr : Frame). fr ∷ reverse c.push.new.self.items) c.replace.ensures.after ∙ ap (λ (frs : List Frame). c.in_ok-child.child ∷ frs) (on_top c.args.outer.now.items c.push.new.self.items c.args.innermost.now pushed) in
    subst (λ (frs : List Frame). IsUnderWay (live c.args.self.now.graph.now) c.begin.new.types c.begin.new.ctxs c.args.self.now.records.now (on c.args.self.now.whole c.args.self.now.passed.now) from before frs made) (sym top)
    (descended (live c.args.self.now.graph.now) c.args.self.now.well_formed c.args.types.now c.begin.new.types c.args.ctxs.now c.begin.new.ctxs c.in_ok-child.ensures.types c.in_ok-child.ensures.contexts
    c.args.self.now.records.now c.requires.records (on c.args.self.now.whole c.args.self.now.passed.now) from before c.args.innermost.now c.in_ok-child.child (reverse c.args.outer.now.items) made c.args.edge.now
    (drop 1 c.args.innermost.now.left) (first_is c.args.innermost.now.left c.args.edge.now c.requires.first) c.requires.frames of_made c.requires.found c.in_ok-child.ensures.was (c.in_ok-child.ensures.vertex ∙ c.target.ensures)
    (subst (λ (v : Vertex). opened_at c.args.types.now c.args.ctxs.now c.in_ok-child.child.state ≡ machine.fresh v.ctor (demanded_at c.args.types.now c.args.ctxs.now c.args.innermost.now.demand)) c.target.ensures c.in_ok-child.ensures.fresh)
    (subst (λ (v : Vertex). left_of c.in_ok-child.child.state ≡ positions v.ctor) c.target.ensures c.in_ok-child.ensures.all_left) c.in_ok-child.ensures.begun way)

pub returns-clause-frames : goal.returns-clause-frames
returns-clause-frames g c =
    let pushed : c.push.new.self.items ≡ c.args.outer.now.items ++ c.args.innermost.now ∷ [] = c.in_ok-push.ensures.items ∙ ap (λ (fr : Frame). c.args.outer.now.items ++ fr ∷ []) c.replace.ensures.value in
    let top : c.replace.new.dest ∷ reverse c.push.new.self.items ≡ c.in_ok-child.child ∷ c.args.innermost.now ∷ reverse c.args.outer.now.items =
    ap (λ (fr : Frame). fr ∷ reverse c.push.new.self.items) c.replace.ensures.after ∙ ap (λ (frs : List Frame). c.in_ok-child.child ∷ frs) (on_top c.args.outer.now.items c.push.new.self.items c.args.innermost.now pushed) in
    subst (AreFramesOf c.begin.new.types c.begin.new.ctxs) (sym top)
    (c.in_ok-child.ensures.numbers, frames_kept c.args.types.now c.begin.new.types c.args.ctxs.now c.begin.new.ctxs c.in_ok-child.ensures.types c.in_ok-child.ensures.contexts (c.args.innermost.now ∷ reverse c.args.outer.now.items) c.requires.frames)

pub returns-clause-counted : goal.returns-clause-counted
returns-clause-counted g c = λ start paid count made within counted.
    let pushed : c.push.new.self.items ≡ c.args.outer.now.items ++ c.args.innermost.now ∷ [] = c.in_ok-push.ensures.items ∙ ap (λ (fr : Frame). c.args.outer.now.items ++ fr ∷ []) c.replace.ensures.value in
    let top : c.replace.new.dest ∷ reverse c.push.new.self.items ≡ c.in_ok-child.child ∷ c.args.innermost.now ∷ reverse c.args.outer.now.items =
    ap (λ (fr : Frame). fr ∷ reverse c.push.new.self.items) c.replace.ensures.after ∙ ap (λ (frs : List Frame). c.in_ok-child.child ∷ frs) (on_top c.args.outer.now.items c.push.new.self.items c.args.innermost.now pushed) in
    let child : Frame = c.in_ok-child.child in
    let ticks = c.in_ok-child.ensures.ticks in
    let row = fresh_row child c.args.edge.now.target (c.in_ok-child.ensures.vertex ∙ c.target.ensures) c.in_ok-child.ensures.numbers.ctor
    (subst (λ (v : Vertex). left_of c.in_ok-child.child.state ≡ positions v.ctor) c.target.ensures c.in_ok-child.ensures.all_left) in
    let fresh = fresh_costs (live c.args.self.now.graph.now) c.args.types.now c.begin.new.types c.args.ctxs.now c.begin.new.ctxs child c.in_ok-child.ensures.begun row in
    subst (λ (frs : List Frame). AreCounted (live c.args.self.now.graph.now) start paid c.begin.new.steps frs made) (sym top)
    (counted_down (live c.args.self.now.graph.now) start paid c.args.innermost.now child (reverse c.args.outer.now.items) made count c.begin.new.steps (some_left c.args.innermost.now.left c.args.edge.now c.requires.first) fresh
    (omega (arith, ticks, within)) counted)

pub returns-clause-paid : goal.returns-clause-paid
returns-clause-paid g c = λ from before made start paid count within way counted.
    let most = subst (λ (v : Vertex). c.begin.new.steps ≤ c.args.steps.now + places_cost (live c.args.self.now.graph.now) v (positions v.ctor)) c.target.ensures c.begin.ensures.at_most in
    paid_down (live c.args.self.now.graph.now) c.args.types.now c.args.ctxs.now c.args.self.now.records.now (on c.args.self.now.whole c.args.self.now.passed.now) from before made start paid count c.begin.new.steps c.args.self.now.well_formed c.requires.records c.args.innermost.now (reverse c.args.outer.now.items) c.args.edge.now
    (drop 1 c.args.innermost.now.left) (first_is c.args.innermost.now.left c.args.edge.now c.requires.first) c.requires.found way counted (omega (arith, within, most))

pub returns-in_err-push-clause-paid : goal.returns-in_err-push-clause-paid
returns-in_err-push-clause-paid g c = λ from before made start paid count within way counted.
    let most = subst (λ (v : Vertex). c.begin.new.steps ≤ c.args.steps.now + places_cost (live c.args.self.now.graph.now) v (positions v.ctor)) c.target.ensures c.begin.ensures.at_most in
    paid_down (live c.args.self.now.graph.now) c.args.types.now c.args.ctxs.now c.args.self.now.records.now (on c.args.self.now.whole c.args.self.now.passed.now) from before made start paid count c.begin.new.steps c.args.self.now.well_formed c.requires.records c.args.innermost.now (reverse c.args.outer.now.items) c.args.edge.now
    (drop 1 c.args.innermost.now.left) (first_is c.args.innermost.now.left c.args.edge.now c.requires.first) c.requires.found way counted (omega (arith, within, most))

pub returns-in_err-child-clause-paid : goal.returns-in_err-child-clause-paid
returns-in_err-child-clause-paid g c = λ from before made start paid count within way counted.
    let most = subst (λ (v : Vertex). c.begin.new.steps ≤ c.args.steps.now + places_cost (live c.args.self.now.graph.now) v (positions v.ctor)) c.target.ensures c.begin.ensures.at_most in
    paid_down (live c.args.self.now.graph.now) c.args.types.now c.args.ctxs.now c.args.self.now.records.now (on c.args.self.now.whole c.args.self.now.passed.now) from before made start paid count c.begin.new.steps c.args.self.now.well_formed c.requires.records c.args.innermost.now (reverse c.args.outer.now.items) c.args.edge.now
    (drop 1 c.args.innermost.now.left) (first_is c.args.innermost.now.left c.args.edge.now c.requires.first) c.requires.found way counted (omega (arith, within, most))
