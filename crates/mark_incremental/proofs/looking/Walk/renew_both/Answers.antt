-- The records that the second walk makes stand behind those of the first.
use Rattle.std.proofs.Common.{◌++◌, sym, ap, ◌∙◌, arith}
use Rattle.live_graph.specs.Live.{live}
use Rattle.kept_records.proofs.Standing.{stands_under}
use Rattle.mark_incremental.specs.Looking.{on}
use Rattle.mark_incremental.specs.Walking.{start_at, meant}
use Rattle.mark_incremental.proofs.Growth.{records_kept, reads_as-kept, records_at-kept, meant-kept}
use Rattle.mark_incremental.proofs.Paid.{start_paid}
use Rattle.mark_incremental.proofs.ShortWalks.{start_kept, both_paid}
use Rattle.mark_incremental.proofs.looking.Walk.renew_both.Goals as goal

pub returns-clause-both : goal.returns-clause-both
returns-clause-both g c = λ d place records reads leaves below.
    let types = c.in_ok-made.ensures.types in
    let contexts = c.in_ok-made.ensures.contexts in
    let later_types = c.in_ok-renew_from.ensures.types in
    let later_contexts = c.in_ok-renew_from.ensures.contexts in
    let there = start_kept (live c.args.self.now.graph.now) c.args.types.now c.renew_alone.new.types c.args.ctxs.now c.renew_alone.new.ctxs types contexts c.args.demand c.requires.demand (start_at c.args.start.now d) place in
    let of_tables = records_kept c.args.types.now c.renew_alone.new.types c.args.ctxs.now c.renew_alone.new.ctxs types contexts c.args.self.now.records.now c.requires.records in
    let has = c.in_ok-renew_from.ensures.from d there records reads below in
    record {
      first = meant c.renew_alone.new.types c.renew_alone.new.ctxs c.in_ok-made.made.items;
      makes_first =
          c.in_ok-made.ensures.alone records
          (reads_as-kept c.renew_alone.new.types c.renew_from.new.types c.renew_alone.new.ctxs c.renew_from.new.ctxs later_types later_contexts c.args.self.now.records.now records of_tables reads) leaves;
      own = has.own;
      makes_own = has.makes;
      all =
          has.are
          ∙ ap (λ ms. ms ++ has.own) (meant-kept c.renew_alone.new.types c.renew_from.new.types c.renew_alone.new.ctxs c.renew_from.new.ctxs later_types later_contexts c.in_ok-made.made.items c.in_ok-made.ensures.made);
    }

pub returns-in_err-made-clause-paid : goal.returns-in_err-made-clause-paid
returns-in_err-made-clause-paid g c = λ d place records reads leaves below.
    both_paid (live c.args.self.now.graph.now) (on c.args.self.now.whole c.args.self.now.passed.now) records c.args.target.now (start_at c.args.start.now d) c.args.steps.now c.renew_alone.new.steps c.renew_alone.new.steps
    (c.renew_alone.ensures.paid records reads leaves)
    (start_paid (live c.args.self.now.graph.now) (on c.args.self.now.whole c.args.self.now.passed.now) records (start_at c.args.start.now d) place.forest
    (stands_under (live c.args.self.now.graph.now) place.above c.args.start.now place.forest d place.stands) c.renew_alone.new.steps c.renew_alone.new.steps (omega arith))

pub returns-in_err-renew_from-clause-paid : goal.returns-in_err-renew_from-clause-paid
returns-in_err-renew_from-clause-paid g c = λ d place records reads leaves below.
    let types = c.in_ok-made.ensures.types in
    let contexts = c.in_ok-made.ensures.contexts in
    let there = start_kept (live c.args.self.now.graph.now) c.args.types.now c.renew_alone.new.types c.args.ctxs.now c.renew_alone.new.ctxs types contexts c.args.demand c.requires.demand (start_at c.args.start.now d) place in
    both_paid (live c.args.self.now.graph.now) (on c.args.self.now.whole c.args.self.now.passed.now) records c.args.target.now (start_at c.args.start.now d) c.args.steps.now c.renew_alone.new.steps c.renew_from.new.steps
    (c.renew_alone.ensures.paid records reads leaves)
    (c.renew_from.ensures.paid d there records
    (λ v. reads v ∙ sym (records_at-kept c.args.types.now c.renew_alone.new.types c.args.ctxs.now c.renew_alone.new.ctxs types contexts c.args.self.now.records.now c.requires.records v)) below)

pub returns-clause-paid : goal.returns-clause-paid
returns-clause-paid g c = λ d place records reads leaves below.
    let types = c.in_ok-made.ensures.types in
    let contexts = c.in_ok-made.ensures.contexts in
    let there = start_kept (live c.args.self.now.graph.now) c.args.types.now c.renew_alone.new.types c.args.ctxs.now c.renew_alone.new.ctxs types contexts c.args.demand c.requires.demand (start_at c.args.start.now d) place in
    both_paid (live c.args.self.now.graph.now) (on c.args.self.now.whole c.args.self.now.passed.now) records c.args.target.now (start_at c.args.start.now d) c.args.steps.now c.renew_alone.new.steps c.renew_from.new.steps
    (c.renew_alone.ensures.paid records reads leaves)
    (c.renew_from.ensures.paid d there records
    (λ v. reads v ∙ sym (records_at-kept c.args.types.now c.renew_alone.new.types c.args.ctxs.now c.renew_alone.new.ctxs types contexts c.args.self.now.records.now c.requires.records v)) below)
