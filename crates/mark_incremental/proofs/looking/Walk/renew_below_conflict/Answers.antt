-- What is demanded at the position is found, and then what is made for the target.
use Rattle.std.proofs.Common.{sym, ◌∙◌, arith}
use Rattle.live_graph.specs.Live.{live}
use Rattle.mark_incremental.specs.Looking.{on}
use Rattle.mark_incremental.specs.Walking.{demands, ReadsAs}
use Rattle.mark_incremental.specs.AtConflict.{level_at, IsDemandBelow}
use Rattle.mark_incremental.proofs.Growth.{records_kept, reads_as-kept, records_at-kept}
use Rattle.mark_incremental.proofs.AtConflict.{start_below, some_of}
use Rattle.mark_incremental.proofs.looking.Walk.renew_below_conflict.Goals as goal

pub returns-clause-target : goal.returns-clause-target
returns-clause-target g c = λ d place there records reads alone source target.
    let new = live c.args.self.now.graph.now in
    let judged = on c.args.self.now.whole c.args.self.now.passed.now in
    let places = c.args.self.now.records.now in
    let l = level_at c.args.edge.now.source place.above place.forest d in
    let types = c.in_ok-below.ensures.types in
    let contexts = c.in_ok-below.ensures.contexts in
    let of_tables = records_kept c.args.types.now c.demand_below.new.types c.args.ctxs.now c.demand_below.new.ctxs types contexts places c.requires.records in
    let was = reads_as-kept c.demand_below.new.types c.renew_target.new.types c.demand_below.new.ctxs c.renew_target.new.ctxs c.in_ok-made.ensures.types c.in_ok-made.ensures.contexts places records of_tables reads in
    let below = some_of (IsDemandBelow new c.demand_below.new.types c.demand_below.new.ctxs places judged l c.args.edge.now.position) c.in_ok-below.field-0 c.in-Some.below c.in-Some.is (c.in_ok-below.ensures.below d place) in
    c.in_ok-made.ensures.target (demands l c.args.edge.now.position)
    (λ inner. start_below new c.args.self.now.well_formed c.demand_below.new.types c.demand_below.new.ctxs places judged c.args.edge.now l place.stands c.in-Some.below below records was source (there inner))
    records reads alone source target

pub returns-in_err-made-clause-paid : goal.returns-in_err-made-clause-paid
returns-in_err-made-clause-paid g c = λ d place there most bound.
    let new = live c.args.self.now.graph.now in
    let judged = on c.args.self.now.whole c.args.self.now.passed.now in
    let places = c.args.self.now.records.now in
    let l = level_at c.args.edge.now.source place.above place.forest d in
    let below = some_of (IsDemandBelow new c.demand_below.new.types c.demand_below.new.ctxs places judged l c.args.edge.now.position) c.in_ok-below.field-0 c.in-Some.below c.in-Some.is (c.in_ok-below.ensures.below d place) in
    let first = c.demand_below.ensures.ticks in
    let counted =
    bound c.demand_below.new.steps c.renew_target.new.steps
    (λ records reads alone source target.
    let was : ReadsAs c.demand_below.new.types c.demand_below.new.ctxs places records = λ v. reads v ∙ sym (records_at-kept c.args.types.now c.demand_below.new.types c.args.ctxs.now c.demand_below.new.ctxs c.demand_below.ensures.types c.demand_below.ensures.contexts places c.requires.records v) in
    c.renew_target.ensures.paid (demands l c.args.edge.now.position)
    (λ inner. start_below new c.args.self.now.well_formed c.demand_below.new.types c.demand_below.new.ctxs places judged c.args.edge.now l place.stands c.in-Some.below below records was source (there inner))
    records was alone source target) in
    omega (arith, first, counted)

pub returns-clause-paid : goal.returns-clause-paid
returns-clause-paid g c = λ d place there most bound.
    let new = live c.args.self.now.graph.now in
    let judged = on c.args.self.now.whole c.args.self.now.passed.now in
    let places = c.args.self.now.records.now in
    let l = level_at c.args.edge.now.source place.above place.forest d in
    let below = some_of (IsDemandBelow new c.demand_below.new.types c.demand_below.new.ctxs places judged l c.args.edge.now.position) c.in_ok-below.field-0 c.in-Some.below c.in-Some.is (c.in_ok-below.ensures.below d place) in
    let first = c.demand_below.ensures.ticks in
    let counted =
    bound c.demand_below.new.steps c.renew_target.new.steps
    (λ records reads alone source target.
    let was : ReadsAs c.demand_below.new.types c.demand_below.new.ctxs places records = λ v. reads v ∙ sym (records_at-kept c.args.types.now c.demand_below.new.types c.args.ctxs.now c.demand_below.new.ctxs c.demand_below.ensures.types c.demand_below.ensures.contexts places c.requires.records v) in
    c.renew_target.ensures.paid (demands l c.args.edge.now.position)
    (λ inner. start_below new c.args.self.now.well_formed c.demand_below.new.types c.demand_below.new.ctxs places judged c.args.edge.now l place.stands c.in-Some.below below records was source (there inner))
    records was alone source target) in
    omega (arith, first, counted)
