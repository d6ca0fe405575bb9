-- The next position is begun by its place in the table.
use Rattle.std.proofs.Common.{◌≡◌, ◌<◌, length, nat_lt, rules, arith, Some, ap, subst}
use Rattle.std.specs.Prelude.{◌↔◌, IsTrue, slice_get}
use Rattle.grove_sorts.specs.Ctor.{positions}
use Rattle.graph_words.specs.Live.{children_of}
use Rattle.live_graph.specs.Live.{live}
use Rattle.judging.proofs.Kept.{open_kept}
use Rattle.mark_incremental.specs.declared.frame.Frame.{Frame}
use Rattle.mark_incremental.proofs.Begins.{begins_there}
use Rattle.mark_incremental.proofs.Ticks.{begun_there, place_costs}
use Rattle.mark_incremental.proofs.looking.Walk.at_next.Goals as goal

pub returns-clause-begun : goal.returns-clause-begun
returns-clause-begun g c =
    let fr : Frame = record { vertex = c.args.vertex; state = c.args.state; left = c.children-left.result; several = nat_lt 1 c.len-several.result; demand = c.among.result; given = c.nothing-2.result } in
    let found : slice_get (positions c.args.vertex.now.ctor) c.args.state.next ≡ Some (c.in-Some.position, c.in-Some.field-0-1) = cc (c.in-Some.ensures) in
    let bound : IsTrue (nat_lt 1 c.len-several.result) ↔ (1 < c.len-several.result) = search rules in
    let several : IsTrue (nat_lt 1 c.len-several.result) ↔ (1 < length c.children-left.result) = subst (λ n. IsTrue (nat_lt 1 c.len-several.result) ↔ (1 < n)) c.len-several.ensures.count bound in
    begins_there (live c.args.self.now.graph.now) c.args.types.now c.demand_at.new.types c.args.ctxs.now c.demand_at.new.ctxs fr (c.in-Some.position, c.in-Some.field-0-1) c.in_ok-demand.demand found c.requires.ctor
    c.children-left.ensures.children several (c.among.ensures.demand c.demand_at.new.types c.demand_at.new.ctxs) c.in_ok-demand.ensures.demand c.nothing-2.ensures.given

pub returns-clause-ticks : goal.returns-clause-ticks
returns-clause-ticks g c =
    let fr : Frame = record { vertex = c.args.vertex; state = c.args.state; left = c.children-left.result; several = nat_lt 1 c.len-several.result; demand = c.among.result; given = c.nothing-2.result } in
    let found : slice_get (positions c.args.vertex.now.ctor) c.args.state.next ≡ Some (c.in-Some.position, c.in-Some.field-0-1) = cc (c.in-Some.ensures) in
    begun_there fr (c.in-Some.position, c.in-Some.field-0-1) c.args.steps.now c.children-left.new.steps found c.children-left.ensures.ticks

pub returns-clause-numbers : goal.returns-clause-numbers
returns-clause-numbers g c = record {
  state = open_kept c.args.types.now c.demand_at.new.types c.args.ctxs.now c.demand_at.new.ctxs c.in_ok-demand.ensures.types c.in_ok-demand.ensures.contexts c.args.state c.requires.state;
  demand = c.among.ensures.numbers c.demand_at.new.types c.demand_at.new.ctxs c.in_ok-demand.ensures.number;
  given = c.nothing-2.ensures.number;
  ctor = c.requires.ctor;
}

pub returns-clause-at_most : goal.returns-clause-at_most
returns-clause-at_most g c =
    let found : slice_get (positions c.args.vertex.now.ctor) c.args.state.next ≡ Some (c.in-Some.position, c.in-Some.field-0-1) = cc (c.in-Some.ensures) in
    let there : length c.children-left.result ≡ length (children_of c.args.vertex.now c.in-Some.position (live c.args.self.now.graph.now)) =
    ap length c.children-left.ensures.children in
    place_costs (live c.args.self.now.graph.now) c.args.vertex.now c.args.state.next (c.in-Some.position, c.in-Some.field-0-1) c.args.steps.now c.children-left.new.steps found (omega (arith, there, c.children-left.ensures.ticks))

pub returns-in_err-demand-clause-at_most : goal.returns-in_err-demand-clause-at_most
returns-in_err-demand-clause-at_most g c =
    let found : slice_get (positions c.args.vertex.now.ctor) c.args.state.next ≡ Some (c.in-Some.position, c.in-Some.field-0-1) = cc (c.in-Some.ensures) in
    let there : length c.children-left.result ≡ length (children_of c.args.vertex.now c.in-Some.position (live c.args.self.now.graph.now)) =
    ap length c.children-left.ensures.children in
    place_costs (live c.args.self.now.graph.now) c.args.vertex.now c.args.state.next (c.in-Some.position, c.in-Some.field-0-1) c.args.steps.now c.children-left.new.steps found (omega (arith, there, c.children-left.ensures.ticks))
