-- All positions of the vertex are left.
use Rattle.std.proofs.Common.{◌≡◌, ◌+◌, ◌≤◌, List, drop, sym, ap, subst, ◌∙◌}
use Rattle.grove_sorts.specs.declared.position.Position.{Position}
use Rattle.grove_sorts.specs.declared.sort.Sort.{Sort}
use Rattle.grove_sorts.specs.Ctor.{positions}
use Rattle.live_graph.specs.Live.{live}
use Rattle.judging.specs.Machine as machine
use Rattle.mark_incremental.specs.Ticks.{places_cost}
use Rattle.mark_incremental.proofs.looking.Walk.begin.Goals as goal

pub at_next-requires-clause-ctor : goal.at_next-requires-clause-ctor
at_next-requires-clause-ctor g c = ap (λ (v : machine.Opened). v.ctor) (c.fresh-state.ensures.opened c.args.ctxs.now)

pub returns-clause-at_most : goal.returns-clause-at_most
returns-clause-at_most g c =
    let all : drop c.fresh-state.result.next (positions c.args.vertex.now.ctor) ≡ positions c.args.vertex.now.ctor =
    ap (λ ctor. drop c.fresh-state.result.next (positions ctor)) (sym (ap (λ (v : machine.Opened). v.ctor) (c.fresh-state.ensures.opened c.args.ctxs.now))) ∙ c.fresh-state.ensures.left in
    subst (λ (row : List (Position × Sort)). c.at_next.new.steps ≤ c.args.steps.now + places_cost (live c.args.self.now.graph.now) c.args.vertex.now row) all c.at_next.ensures.at_most
