-- A walk down begins with a vertex, goes on step by step, and ends where nothing is open.
use Rattle.std.proofs.Common.{◌≡◌, ◌*◌, List, [], ◌∷◌, sym, ap, subst, ◌∙◌, arith}
use Rattle.std.specs.Prelude.{reverse}
use Rattle.live_graph.specs.Live.{live}
use Rattle.judging.proofs.Kept.{types-then, contexts-then}
use Rattle.kept_records.specs.Kept.{Kept}
use Rattle.kept_records.proofs.Standing.{stands_under}
use Rattle.grove_edits.specs.declared.vertex.Vertex.{Vertex}
use Rattle.mark_incremental.specs.declared.frame.Frame.{Frame}
use Rattle.mark_incremental.specs.Looking.{on}
use Rattle.mark_incremental.specs.Walking.{start_at, still_open, IsUnderWay, AreFramesOf, meant, ReadsAs}
use Rattle.mark_incremental.proofs.Growth.{made_kept, meant-kept, records_kept, records_at-kept}
use Rattle.mark_incremental.proofs.Steps.{walk_begun, way_ends}
use Rattle.mark_incremental.specs.Ticks.{weight_of, AreCounted}
use Rattle.mark_incremental.proofs.Ticks.{fresh_row, fresh_costs, counted_head, counted_end}
use Rattle.mark_incremental.proofs.Paid.{meant_weighs, start_paid, walk_paid, paid_now}
use Rattle.mark_incremental.proofs.looking.Walk.renew_from.Goals as goal

pub loop-init : goal.loop-init
loop-init g c =
    let only : c.in_ok-innermost.innermost ∷ [] ≡ c.in_ok-innermost.innermost ∷ reverse c.new-outer.result.items =
    ap (λ (frs : List Frame). c.in_ok-innermost.innermost ∷ reverse frs) (sym c.new-outer.ensures.items) in
    let types = c.in_ok-innermost.ensures.types in
    let contexts = c.in_ok-innermost.ensures.contexts in
    let made = made_kept c.args.types.now c.begin.new.types c.args.ctxs.now c.begin.new.ctxs types contexts c.args.made.now.items c.requires.made in
    record {
      way = λ d place.
          subst (λ (frs : List Frame). IsUnderWay (live c.args.self.now.graph.now) c.begin.new.types c.begin.new.ctxs c.args.self.now.records.now (on c.args.self.now.whole c.args.self.now.passed.now) (start_at c.args.start.now d) (meant c.begin.new.types c.begin.new.ctxs c.args.made.now.items) frs c.args.made.now.items) only
          (walk_begun (live c.args.self.now.graph.now) c.args.self.now.well_formed c.args.types.now c.begin.new.types c.args.ctxs.now c.begin.new.ctxs types contexts c.args.self.now.records.now c.requires.records (on c.args.self.now.whole c.args.self.now.passed.now) (start_at c.args.start.now d) []
          c.in_ok-innermost.innermost c.args.made.now.items c.args.demand place c.in_ok-innermost.ensures.was c.in_ok-innermost.ensures.vertex c.in_ok-innermost.ensures.fresh c.in_ok-innermost.ensures.all_left c.in_ok-innermost.ensures.begun);
      counted =
          subst (λ (frs : List Frame). AreCounted (live c.args.self.now.graph.now) c.args.steps.now (5 * weight_of (live c.args.self.now.graph.now) c.args.made.now.items) c.begin.new.steps frs c.args.made.now.items) only
          (counted_head (live c.args.self.now.graph.now) c.args.steps.now (5 * weight_of (live c.args.self.now.graph.now) c.args.made.now.items) c.in_ok-innermost.innermost c.args.made.now.items c.args.steps.now c.begin.new.steps
          (fresh_costs (live c.args.self.now.graph.now) c.args.types.now c.begin.new.types c.args.ctxs.now c.begin.new.ctxs c.in_ok-innermost.innermost c.in_ok-innermost.ensures.begun
          (fresh_row c.in_ok-innermost.innermost c.args.start.now c.in_ok-innermost.ensures.vertex c.in_ok-innermost.ensures.numbers.ctor c.in_ok-innermost.ensures.all_left))
          c.in_ok-innermost.ensures.ticks (omega arith));
      frames = subst (AreFramesOf c.begin.new.types c.begin.new.ctxs) only (c.in_ok-innermost.ensures.numbers, tt);
      made = made;
      before = made;
      records = records_kept c.args.types.now c.begin.new.types c.args.ctxs.now c.begin.new.ctxs types contexts c.args.self.now.records.now c.requires.records;
      types = types;
      contexts = contexts;
    }

pub loop-preserved : goal.loop-preserved
loop-preserved g c =
    let types = c.in_ok-ended.ensures.types in
    let contexts = c.in_ok-ended.ensures.contexts in
    let goes_on = c.if-ended.false in
    record {
      way = λ d place.
          subst (λ (before : List (Vertex × Kept)). IsUnderWay (live c.args.self.now.graph.now) c.step.new.types c.step.new.ctxs c.args.self.now.records.now (on c.args.self.now.whole c.args.self.now.passed.now) (start_at c.args.start.now d) before (c.step.new.innermost ∷ reverse c.step.new.outer.items) c.step.new.made.items)
          (sym (meant-kept c.loop.types c.step.new.types c.loop.ctxs c.step.new.ctxs types contexts c.args.made.now.items c.loop.invariant.before))
          (subst (λ b. IsUnderWay (live c.args.self.now.graph.now) c.step.new.types c.step.new.ctxs c.args.self.now.records.now (on c.args.self.now.whole c.args.self.now.passed.now) (start_at c.args.start.now d) (meant c.loop.types c.loop.ctxs c.args.made.now.items) (still_open b c.step.new.innermost c.step.new.outer.items) c.step.new.made.items) goes_on
          (c.in_ok-ended.ensures.way (start_at c.args.start.now d) (meant c.loop.types c.loop.ctxs c.args.made.now.items) (c.loop.invariant.way d place)));
      counted =
          subst (λ b. AreCounted (live c.args.self.now.graph.now) c.args.steps.now (5 * weight_of (live c.args.self.now.graph.now) c.args.made.now.items) c.step.new.steps (still_open b c.step.new.innermost c.step.new.outer.items) c.step.new.made.items) goes_on
          (c.in_ok-ended.ensures.counted c.args.steps.now (5 * weight_of (live c.args.self.now.graph.now) c.args.made.now.items) c.loop.invariant.counted);
      frames = subst (λ b. AreFramesOf c.step.new.types c.step.new.ctxs (still_open b c.step.new.innermost c.step.new.outer.items)) goes_on c.in_ok-ended.ensures.frames;
      made = c.in_ok-ended.ensures.made;
      before = made_kept c.loop.types c.step.new.types c.loop.ctxs c.step.new.ctxs types contexts c.args.made.now.items c.loop.invariant.before;
      records = records_kept c.loop.types c.step.new.types c.loop.ctxs c.step.new.ctxs types contexts c.args.self.now.records.now c.loop.invariant.records;
      types = types-then c.args.types.now c.loop.types c.step.new.types c.loop.invariant.types types;
      contexts = contexts-then c.args.ctxs.now c.loop.ctxs c.step.new.ctxs c.loop.invariant.contexts contexts;
    }

pub returns-then-ended-clause-from : goal.returns-then-ended-clause-from
returns-then-ended-clause-from g c = λ d place records reads leaves.
    let types = c.in_ok-ended.ensures.types in
    let contexts = c.in_ok-ended.ensures.contexts in
    way_ends (live c.args.self.now.graph.now) c.step.new.types c.step.new.ctxs c.args.self.now.records.now (on c.args.self.now.whole c.args.self.now.passed.now) (start_at c.args.start.now d) (meant c.step.new.types c.step.new.ctxs c.args.made.now.items) c.step.new.made.items
    (subst (λ (before : List (Vertex × Kept)). IsUnderWay (live c.args.self.now.graph.now) c.step.new.types c.step.new.ctxs c.args.self.now.records.now (on c.args.self.now.whole c.args.self.now.passed.now) (start_at c.args.start.now d) before [] c.step.new.made.items)
    (sym (meant-kept c.loop.types c.step.new.types c.loop.ctxs c.step.new.ctxs types contexts c.args.made.now.items c.loop.invariant.before))
    (subst (λ b. IsUnderWay (live c.args.self.now.graph.now) c.step.new.types c.step.new.ctxs c.args.self.now.records.now (on c.args.self.now.whole c.args.self.now.passed.now) (start_at c.args.start.now d) (meant c.loop.types c.loop.ctxs c.args.made.now.items) (still_open b c.step.new.innermost c.step.new.outer.items) c.step.new.made.items) c.if-ended.true
    (c.in_ok-ended.ensures.way (start_at c.args.start.now d) (meant c.loop.types c.loop.ctxs c.args.made.now.items) (c.loop.invariant.way d place))))
    records reads leaves

pub returns-then-ended-clause-ticks : goal.returns-then-ended-clause-ticks
returns-then-ended-clause-ticks g c =
    counted_end (live c.args.self.now.graph.now) c.args.steps.now (5 * weight_of (live c.args.self.now.graph.now) c.args.made.now.items) c.step.new.made.items c.step.new.steps
    (subst (λ b. AreCounted (live c.args.self.now.graph.now) c.args.steps.now (5 * weight_of (live c.args.self.now.graph.now) c.args.made.now.items) c.step.new.steps (still_open b c.step.new.innermost c.step.new.outer.items) c.step.new.made.items) c.if-ended.true
    (c.in_ok-ended.ensures.counted c.args.steps.now (5 * weight_of (live c.args.self.now.graph.now) c.args.made.now.items) c.loop.invariant.counted))

pub returns-then-ended-clause-types : goal.returns-then-ended-clause-types
returns-then-ended-clause-types g c = types-then c.args.types.now c.loop.types c.step.new.types c.loop.invariant.types c.in_ok-ended.ensures.types

pub returns-then-ended-clause-contexts : goal.returns-then-ended-clause-contexts
returns-then-ended-clause-contexts g c = contexts-then c.args.ctxs.now c.loop.ctxs c.step.new.ctxs c.loop.invariant.contexts c.in_ok-ended.ensures.contexts

-- ---- what was counted, also where memory runs out

pub returns-in_err-innermost-clause-paid : goal.returns-in_err-innermost-clause-paid
returns-in_err-innermost-clause-paid g c = λ d place records reads leaves.
    start_paid (live c.args.self.now.graph.now) (on c.args.self.now.whole c.args.self.now.passed.now) records (start_at c.args.start.now d) place.forest (stands_under (live c.args.self.now.graph.now) place.above c.args.start.now place.forest d place.stands) c.args.steps.now c.begin.new.steps
    c.begin.ensures.at_most

pub returns-in_err-ended-clause-paid : goal.returns-in_err-ended-clause-paid
returns-in_err-ended-clause-paid g c = λ d place records reads leaves.
    let at_loop : ReadsAs c.loop.types c.loop.ctxs c.args.self.now.records.now records =
    λ v. reads v ∙ sym (records_at-kept c.args.types.now c.loop.types c.args.ctxs.now c.loop.ctxs c.loop.invariant.types c.loop.invariant.contexts c.args.self.now.records.now c.requires.records v) in
    walk_paid (live c.args.self.now.graph.now) (on c.args.self.now.whole c.args.self.now.passed.now) records (start_at c.args.start.now d) (meant c.loop.types c.loop.ctxs c.args.made.now.items) c.args.steps.now (5 * weight_of (live c.args.self.now.graph.now) c.args.made.now.items) c.step.new.steps
    (ap (λ w. 5 * w) (sym (meant_weighs (live c.args.self.now.graph.now) c.loop.types c.loop.ctxs c.args.made.now.items)))
    (c.step.ensures.paid (start_at c.args.start.now d) (meant c.loop.types c.loop.ctxs c.args.made.now.items) c.args.steps.now (5 * weight_of (live c.args.self.now.graph.now) c.args.made.now.items) (c.loop.invariant.way d place) c.loop.invariant.counted records at_loop leaves)

pub returns-then-ended-clause-paid : goal.returns-then-ended-clause-paid
returns-then-ended-clause-paid g c = λ d place records reads leaves.
    let at_loop : ReadsAs c.loop.types c.loop.ctxs c.args.self.now.records.now records =
    λ v. reads v ∙ sym (records_at-kept c.args.types.now c.loop.types c.args.ctxs.now c.loop.ctxs c.loop.invariant.types c.loop.invariant.contexts c.args.self.now.records.now c.requires.records v) in
    walk_paid (live c.args.self.now.graph.now) (on c.args.self.now.whole c.args.self.now.passed.now) records (start_at c.args.start.now d) (meant c.loop.types c.loop.ctxs c.args.made.now.items) c.args.steps.now (5 * weight_of (live c.args.self.now.graph.now) c.args.made.now.items) c.step.new.steps
    (ap (λ w. 5 * w) (sym (meant_weighs (live c.args.self.now.graph.now) c.loop.types c.loop.ctxs c.args.made.now.items)))
    (c.step.ensures.paid (start_at c.args.start.now d) (meant c.loop.types c.loop.ctxs c.args.made.now.items) c.args.steps.now (5 * weight_of (live c.args.self.now.graph.now) c.args.made.now.items) (c.loop.invariant.way d place) c.loop.invariant.counted records at_loop leaves)

pub returns-clause-paid : goal.returns-clause-paid
returns-clause-paid g c = λ d place records reads leaves.
    let at_loop : ReadsAs c.loop.types c.loop.ctxs c.args.self.now.records.now records =
    λ v. reads v ∙ sym (records_at-kept c.args.types.now c.loop.types c.args.ctxs.now c.loop.ctxs c.loop.invariant.types c.loop.invariant.contexts c.args.self.now.records.now c.requires.records v) in
    walk_paid (live c.args.self.now.graph.now) (on c.args.self.now.whole c.args.self.now.passed.now) records (start_at c.args.start.now d) (meant c.loop.types c.loop.ctxs c.args.made.now.items) c.args.steps.now (5 * weight_of (live c.args.self.now.graph.now) c.args.made.now.items) c.loop.steps
    (ap (λ w. 5 * w) (sym (meant_weighs (live c.args.self.now.graph.now) c.loop.types c.loop.ctxs c.args.made.now.items)))
    (paid_now (live c.args.self.now.graph.now) c.loop.types c.loop.ctxs c.args.self.now.records.now (on c.args.self.now.whole c.args.self.now.passed.now) (start_at c.args.start.now d) (meant c.loop.types c.loop.ctxs c.args.made.now.items) c.loop.made.items c.args.steps.now (5 * weight_of (live c.args.self.now.graph.now) c.args.made.now.items) c.loop.steps c.loop.steps (c.loop.innermost ∷ reverse c.loop.outer.items) (c.loop.invariant.way d place) c.loop.invariant.counted (omega arith) records at_loop leaves)
