-- A vertex is opened and goes on from position to position until it comes to that of the edge.
use Rattle.std.proofs.Common.{◌≡◌, ◌<◌, ◌∷◌, suc, drop, length, sym, ap, subst, ◌∙◌, arith}
use Rattle.std.proofs.lemmas.Option.{slice_get_within}
use Rattle.grove_sorts.specs.Ctor.{positions}
use Rattle.grove_edits.specs.declared.vertex.Vertex.{Vertex}
use Rattle.grove_terms.specs.Forest.{edges_under}
use Rattle.live_graph.specs.Live.{live}
use Rattle.judging.specs.declared.frame.OpenVertex.{OpenVertex}
use Rattle.judging.proofs.Kept.{types-then, contexts-then}
use Rattle.mark_incremental.specs.AtConflict.{level_at}
use Rattle.mark_incremental.proofs.Growth.{records_kept, reads_as-kept}
use Rattle.mark_incremental.proofs.Positions.{same_positions}
use Rattle.mark_incremental.proofs.Ticks.{fresh_row, first_costs, next_costs}
use Rattle.mark_incremental.proofs.Opened.{opened_first, opened_on, next_there, demand_there}
use Rattle.mark_incremental.proofs.looking.Walk.demand_below.Goals as goal

pub loop-init : goal.loop-init
loop-init g c =
    let new = live c.args.self.now.graph.now in
    let source = c.args.edge.now.source in
    let frame = c.in_ok-frame.frame in
    let now = c.in_ok-frame.ensures in
    let costs = first_costs new c.args.types.now c.begin.new.types c.args.ctxs.now c.begin.new.ctxs frame now.begun (fresh_row frame source now.vertex now.numbers.ctor now.all_left) in
    let same : length (edges_under new frame.vertex.now) ≡ length (edges_under new source) = ap (λ v. length (edges_under new v)) now.vertex in
    let ticks = now.ticks in
    record {
      opened = λ d place records reads leaves.
          opened_first new c.args.types.now c.begin.new.types c.args.ctxs.now c.begin.new.ctxs now.types now.contexts source c.args.demand frame now.was now.vertex now.fresh now.all_left now.begun d place;
      vertex = now.vertex;
      numbers = now.numbers;
      counted = omega (arith, costs, same, ticks);
      records = records_kept c.args.types.now c.begin.new.types c.args.ctxs.now c.begin.new.ctxs now.types now.contexts c.args.self.now.records.now c.requires.records;
      types = now.types;
      contexts = now.contexts;
    }

pub returns-then-eq-clause-below : goal.returns-then-eq-clause-below
returns-then-eq-clause-below g c = λ d place records reads leaves s wanted.
    demand_there (live c.args.self.now.graph.now) c.loop.types c.loop.ctxs (level_at c.args.edge.now.source place.above place.forest d) c.loop.frame (c.loop.invariant.opened d place records reads leaves)
    (c.in-Some.position, c.in-Some.field-0-1) (sym c.in-Some.ensures) c.args.edge.now.position (same_positions c.in-Some.position c.args.edge.now.position (sym c.eq.ensures ∙ c.if-eq.true)) s wanted

pub loop-preserved : goal.loop-preserved
loop-preserved g c =
    let new = live c.args.self.now.graph.now in
    let source = c.args.edge.now.source in
    let passed = c.in-Some-pass.passed in
    let past = c.in-Some-pass.ensures in
    let frame = c.go_on.new.frame in
    let now = c.in_ok-go_on.ensures in
    let was_vertex : passed.vertex.now ≡ source = past.vertex ∙ c.loop.invariant.vertex in
    let vertex : frame.vertex.now ≡ source = now.vertex ∙ was_vertex in
    let at : drop passed.state.next (positions source.ctor) ≡ (c.in-Some.position, c.in-Some.field-0-1) ∷ drop (suc c.loop.frame.state.next) (positions source.ctor) =
    ap (λ (o : OpenVertex). drop o.next (positions source.ctor)) past.state ∙ next_there (positions source.ctor) c.loop.frame.state.next (c.in-Some.position, c.in-Some.field-0-1) (sym c.in-Some.ensures) in
    let costs = next_costs new c.loop.types c.go_on.new.types c.loop.ctxs c.go_on.new.ctxs frame now.begun passed now.vertex (ap (λ (o : OpenVertex). o.next) now.filled) in
    let so_far = past.costs in
    let ticks = now.ticks in
    let counted = c.loop.invariant.counted in
    record {
      opened = λ d place records reads leaves.
          let l = level_at source place.above place.forest d in
          opened_on new c.loop.types c.go_on.new.types c.loop.ctxs c.go_on.new.ctxs now.types now.contexts l frame now.was vertex now.begun passed (c.in-Some.position, c.in-Some.field-0-1)
          (drop (suc c.loop.frame.state.next) (positions source.ctor)) past.numbers.state (past.numbers.ctor ∙ ap (λ (v : Vertex). v.ctor) was_vertex) at now.filled
          (past.passed l (c.loop.invariant.opened d place) records
          (reads_as-kept c.loop.types c.go_on.new.types c.loop.ctxs c.go_on.new.ctxs now.types now.contexts c.args.self.now.records.now records c.loop.invariant.records reads) leaves);
      vertex = vertex;
      numbers = now.numbers;
      counted = omega (arith, costs, so_far, ticks, counted);
      records = records_kept c.loop.types c.go_on.new.types c.loop.ctxs c.go_on.new.ctxs now.types now.contexts c.args.self.now.records.now c.loop.invariant.records;
      types = types-then c.args.types.now c.loop.types c.go_on.new.types c.loop.invariant.types now.types;
      contexts = contexts-then c.args.ctxs.now c.loop.ctxs c.go_on.new.ctxs c.loop.invariant.contexts now.contexts;
    }

pub go_on-requires-clause-next : goal.go_on-requires-clause-next
go_on-requires-clause-next g c =
    let source = c.args.edge.now.source in
    let passed = c.in-Some-pass.passed in
    let past = c.in-Some-pass.ensures in
    let vertex : passed.vertex.now ≡ source = past.vertex ∙ c.loop.invariant.vertex in
    let within : c.loop.frame.state.next < length (positions source.ctor) =
    slice_get_within (positions source.ctor) c.loop.frame.state.next (c.in-Some.position, c.in-Some.field-0-1) (sym c.in-Some.ensures) in
    subst (λ (v : Vertex). passed.state.next < length (positions v.ctor)) (sym vertex) (subst (λ (o : OpenVertex). o.next < length (positions source.ctor)) (sym past.state) within)
