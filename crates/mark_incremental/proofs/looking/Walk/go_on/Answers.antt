-- A position is filled, and what the vertex gives so far is of the tables still.
use Rattle.std.proofs.Common.{◌≡◌, ℕ, suc, ◌+◌, ◌<◌, ◌≤◌, drop, length, sym, ap, subst, ◌∙◌, arith}
use Rattle.live_graph.specs.Live.{live}
use Rattle.judging.specs.declared.frame.OpenVertex.{OpenVertex}
use Rattle.grove_sorts.specs.Ctor.{positions}
use Rattle.judging.specs.Frames.{IsOpenOf}
use Rattle.judging.proofs.Filling.{is_filled}
use Rattle.mark_incremental.specs.Ticks.{places_cost}
use Rattle.mark_incremental.proofs.looking.Walk.go_on.Goals as goal

pub at_next-requires-clause-state : goal.at_next-requires-clause-state
at_next-requires-clause-state g c =
    subst (IsOpenOf c.args.types.now c.args.ctxs.now) (sym c.fill.ensures)
    (is_filled c.args.types.now c.args.ctxs.now c.args.frame.now.given c.args.frame.now.state c.requires.frame.state
    (subst (λ ctor. c.args.frame.now.state.next < length (positions ctor)) (sym c.requires.frame.ctor) c.requires.next) c.requires.frame.given)

pub returns-clause-was : goal.returns-clause-was
returns-clause-was g c =
    subst (IsOpenOf c.args.types.now c.args.ctxs.now) (sym (c.in_ok-frame.ensures.state ∙ c.fill.ensures))
    (is_filled c.args.types.now c.args.ctxs.now c.args.frame.now.given c.args.frame.now.state c.requires.frame.state
    (subst (λ ctor. c.args.frame.now.state.next < length (positions ctor)) (sym c.requires.frame.ctor) c.requires.next) c.requires.frame.given)

pub returns-clause-at_most : goal.returns-clause-at_most
returns-clause-at_most g c =
    let next = ap (λ (o : OpenVertex). o.next) c.fill.ensures in
    let behind : c.fill.new.vertex.next ≡ suc c.args.frame.now.state.next = omega (arith, next) in
    subst (λ (n : ℕ). c.at_next.new.steps ≤ c.args.steps.now + places_cost (live c.args.self.now.graph.now) c.args.frame.now.vertex.now (drop n (positions c.args.frame.now.vertex.now.ctor))) behind c.at_next.ensures.at_most

pub returns-in_err-frame-clause-at_most : goal.returns-in_err-frame-clause-at_most
returns-in_err-frame-clause-at_most g c =
    let next = ap (λ (o : OpenVertex). o.next) c.fill.ensures in
    let behind : c.fill.new.vertex.next ≡ suc c.args.frame.now.state.next = omega (arith, next) in
    subst (λ (n : ℕ). c.at_next.new.steps ≤ c.args.steps.now + places_cost (live c.args.self.now.graph.now) c.args.frame.now.vertex.now (drop n (positions c.args.frame.now.vertex.now.ctor))) behind c.at_next.ensures.at_most
