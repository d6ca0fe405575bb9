-- Where the first walk is not enough, the second one finds the marks as they were, over tables that have grown.
use Rattle.std.proofs.Common.{arith}
use Rattle.live_graph.specs.Live.{live}
use Rattle.mark_incremental.proofs.ApartFrom.{seen_grown, some_holds, grown_by}
use Rattle.grove_sorts.proofs.Truths.{none_from_cases}
use Rattle.mark_incremental.proofs.marks.Marks.renew_short.Goals as goal

pub returns-in-Some-clause-renewed : goal.returns-in-Some-clause-renewed
returns-in-Some-clause-renewed g c = λ seen. some_holds c.in_ok-records.field-0 c.in-Some.records c.in-Some.is (c.in_ok-records.ensures.renewed seen)

pub returns-in-Some-2-clause-renewed : goal.returns-in-Some-2-clause-renewed
returns-in-Some-2-clause-renewed g c = λ seen.
    let grown = grown_by c.args.self.now c.renew_within.new.self c.renew_within.ensures.types c.renew_within.ensures.contexts (c.in_ok-records.ensures.nothing (none_from_cases c.in_ok-records.field-0 c.in_default.not-Some)) c.renew_within.ensures.roots in
    some_holds c.in_ok-records-2.field-0 c.in-Some-2.records c.in-Some-2.is (c.in_ok-records-2.ensures.renewed (seen_grown c.args.edge.now (live c.args.graph.now) c.args.self.now c.renew_within.new.self grown seen))

pub returns-in_err-records-2-clause-ticks : goal.returns-in_err-records-2-clause-ticks
returns-in_err-records-2-clause-ticks g c = λ seen near are_near.
    let grown = grown_by c.args.self.now c.renew_within.new.self c.renew_within.ensures.types c.renew_within.ensures.contexts (c.in_ok-records.ensures.nothing (none_from_cases c.in_ok-records.field-0 c.in_default.not-Some)) c.renew_within.ensures.roots in
    let one = c.renew_within.ensures.ticks seen near are_near in
    let two = c.renew_within-2.ensures.ticks (seen_grown c.args.edge.now (live c.args.graph.now) c.args.self.now c.renew_within.new.self grown seen) near are_near in
    omega (arith, one, two)

pub returns-in-Some-2-clause-ticks : goal.returns-in-Some-2-clause-ticks
returns-in-Some-2-clause-ticks g c = λ seen near are_near.
    let grown = grown_by c.args.self.now c.renew_within.new.self c.renew_within.ensures.types c.renew_within.ensures.contexts (c.in_ok-records.ensures.nothing (none_from_cases c.in_ok-records.field-0 c.in_default.not-Some)) c.renew_within.ensures.roots in
    let one = c.renew_within.ensures.ticks seen near are_near in
    let two = c.renew_within-2.ensures.ticks (seen_grown c.args.edge.now (live c.args.graph.now) c.args.self.now c.renew_within.new.self grown seen) near are_near in
    omega (arith, one, two)

pub returns-clause-ticks : goal.returns-clause-ticks
returns-clause-ticks g c = λ seen near are_near.
    let grown = grown_by c.args.self.now c.renew_within.new.self c.renew_within.ensures.types c.renew_within.ensures.contexts (c.in_ok-records.ensures.nothing (none_from_cases c.in_ok-records.field-0 c.in_default.not-Some)) c.renew_within.ensures.roots in
    let one = c.renew_within.ensures.ticks seen near are_near in
    let two = c.renew_within-2.ensures.ticks (seen_grown c.args.edge.now (live c.args.graph.now) c.args.self.now c.renew_within.new.self grown seen) near are_near in
    omega (arith, one, two)
