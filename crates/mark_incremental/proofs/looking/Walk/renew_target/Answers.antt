-- The target is judged by itself where it heads a tree, left as it is, or judged again with what stands below it.
use Rattle.std.proofs.Common.{sym, ap, ◌∙◌}
use Rattle.live_graph.specs.Live.{live}
use Rattle.mark_incremental.specs.Looking.{on}
use Rattle.mark_incremental.specs.Walking.{meant}
use Rattle.mark_incremental.specs.ShortWalks.{HasMadeAlone}
use Rattle.mark_incremental.specs.AtConflict.{HasMadeAtConflict}
use Rattle.mark_incremental.proofs.Growth.{reads_as-kept}
use Rattle.mark_incremental.proofs.Stack.{if_ok_so}
use Rattle.mark_incremental.proofs.AtConflict.{none_found, made_alone, made_below, made_own, paid_alone, paid_below}
use Rattle.mark_incremental.proofs.looking.Walk.renew_target.Goals as goal

pub returns-then-is_some-clause-target : goal.returns-then-is_some-clause-target
returns-then-is_some-clause-target g c = λ d place.
    let new = live c.args.self.now.graph.now in
    let judged = on c.args.self.now.whole c.args.self.now.passed.now in
    let places = c.args.self.now.records.now in
    if_ok_so c.renew_alone.result (λ made. HasMadeAlone new c.renew_alone.new.types c.renew_alone.new.ctxs places judged c.args.edge.now.target c.args.edge.now.source made.items)
    (λ made. HasMadeAtConflict c.args.edge.now new c.renew_alone.new.types c.renew_alone.new.ctxs places judged d made.items)
    (λ made has records reads alone source target.
    made_alone c.args.edge.now new c.args.types.now c.args.ctxs.now places judged c.args.demand d place records
    (reads_as-kept c.args.types.now c.renew_alone.new.types c.args.ctxs.now c.renew_alone.new.ctxs c.renew_alone.ensures.types c.renew_alone.ensures.contexts places records c.requires.records reads)
    c.look.result c.look.ensures.found (sym c.is_some.ensures ∙ c.if-is_some.true) (meant c.renew_alone.new.types c.renew_alone.new.ctxs made.items) (has records reads alone))
    c.renew_alone.ensures.alone

pub returns-then-is_some-clause-paid : goal.returns-then-is_some-clause-paid
returns-then-is_some-clause-paid g c = λ d place records reads alone source target.
    let new = live c.args.self.now.graph.now in
    let judged = on c.args.self.now.whole c.args.self.now.passed.now in
    let paid = c.renew_alone.ensures.paid records reads alone in
    paid_alone c.args.edge.now new judged records d c.args.steps.now c.look.new.steps c.renew_alone.new.steps c.look.ensures.ticks paid
    (made_alone c.args.edge.now new c.args.types.now c.args.ctxs.now c.args.self.now.records.now judged c.args.demand d place records reads c.look.result c.look.ensures.found
    (sym c.is_some.ensures ∙ c.if-is_some.true) paid.all paid.makes)

pub returns-in_err-renew_from-clause-paid : goal.returns-in_err-renew_from-clause-paid
returns-in_err-renew_from-clause-paid g c = λ d place records reads alone source target.
    let new = live c.args.self.now.graph.now in
    let judged = on c.args.self.now.whole c.args.self.now.passed.now in
    let places = c.args.self.now.records.now in
    let found = none_found new c.args.types.now c.args.ctxs.now places judged c.args.demand c.args.edge.now c.look.result c.look.ensures.found (sym c.is_some.ensures ∙ c.if-is_some.false) in
    let paid = c.renew_from.ensures.paid d (place found.0).place records reads (target found.0) in
    paid_below c.args.edge.now new judged records d c.args.steps.now c.look.new.steps c.renew_from.new.steps c.look.ensures.ticks paid
    (made_below c.args.edge.now new c.args.types.now c.args.ctxs.now places judged c.args.demand d place records reads c.args.self.now.well_formed c.renew_from.new.types c.renew_from.new.ctxs c.renew_from.ensures.types
    c.renew_from.ensures.contexts c.requires.records source found paid.all paid.makes)

pub returns-clause-target : goal.returns-clause-target
returns-clause-target g c = λ d place records reads alone source target.
    let new = live c.args.self.now.graph.now in
    let judged = on c.args.self.now.whole c.args.self.now.passed.now in
    let places = c.args.self.now.records.now in
    let found = none_found new c.args.types.now c.args.ctxs.now places judged c.args.demand c.args.edge.now c.look.result c.look.ensures.found (sym c.is_some.ensures ∙ c.if-is_some.false) in
    let was = reads_as-kept c.args.types.now c.renew_from.new.types c.args.ctxs.now c.renew_from.new.ctxs c.renew_from.ensures.types c.renew_from.ensures.contexts places records c.requires.records reads in
    let made = meant c.renew_from.new.types c.renew_from.new.ctxs c.renew_from.new.made.items in
    made_below c.args.edge.now new c.args.types.now c.args.ctxs.now places judged c.args.demand d place records was c.args.self.now.well_formed c.renew_from.new.types c.renew_from.new.ctxs c.renew_from.ensures.types
    c.renew_from.ensures.contexts c.requires.records source found made
    (made_own new judged records c.args.edge.now.target d (meant c.renew_from.new.types c.renew_from.new.ctxs c.new-made.result.items) made (ap (meant c.renew_from.new.types c.renew_from.new.ctxs) c.new-made.ensures.items)
    (c.in_ok-renew_from.ensures.from d (place found.0).place records reads (target found.0)))

pub returns-clause-paid : goal.returns-clause-paid
returns-clause-paid g c = λ d place records reads alone source target.
    let new = live c.args.self.now.graph.now in
    let judged = on c.args.self.now.whole c.args.self.now.passed.now in
    let places = c.args.self.now.records.now in
    let found = none_found new c.args.types.now c.args.ctxs.now places judged c.args.demand c.args.edge.now c.look.result c.look.ensures.found (sym c.is_some.ensures ∙ c.if-is_some.false) in
    let paid = c.renew_from.ensures.paid d (place found.0).place records reads (target found.0) in
    paid_below c.args.edge.now new judged records d c.args.steps.now c.look.new.steps c.renew_from.new.steps c.look.ensures.ticks paid
    (made_below c.args.edge.now new c.args.types.now c.args.ctxs.now places judged c.args.demand d place records reads c.args.self.now.well_formed c.renew_from.new.types c.renew_from.new.ctxs c.renew_from.ensures.types
    c.renew_from.ensures.contexts c.requires.records source found paid.all paid.makes)
