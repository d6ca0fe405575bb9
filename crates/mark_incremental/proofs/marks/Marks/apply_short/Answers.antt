-- The marks stood for the graph before the edit, and do so again where it is put back.
use Rattle.std.proofs.Common.{◌*◌, sym, subst, arith}
use Rattle.std.specs.Prelude.{IsTrue}
use Rattle.graph_words.specs.States.{state_in}
use Rattle.live_graph.specs.Live.{live}
use Rattle.mark_incremental.specs.Looking.{AreRoots}
use Rattle.mark_incremental.specs.ShortWalks.{IsApart}
use Rattle.mark_incremental.specs.Standing.{KeptMarks}
use Rattle.mark_incremental.proofs.SizeBound.{size_at, source_within}
use Rattle.mark_incremental.proofs.ApartFrom.{stood_before, rooted_in, way_before, few_short}
use Rattle.mark_incremental.proofs.marks.Marks.apply_short.Goals as goal

pub is_apart-apart-requires : goal.is_apart-apart-requires
is_apart-apart-requires g c =
    subst (λ (m : KeptMarks). AreRoots (live c.args.graph.now) m.roots) (sym c.self.view_is)
    (rooted_in (state_in c.args.graph.now) (live c.args.graph.now) c.args.self.now c.requires.stand c.edge_count-edges.ensures.live)

pub renew_if_short-requires-clause-before : goal.renew_if_short-requires-clause-before
renew_if_short-requires-clause-before g c =
    stood_before c.args.edit.now c.args.edge.now c.requires.edge (state_in c.args.graph.now) (state_in c.raise-change.new.graph) (live c.args.graph.now) c.args.self.now c.few-before.result c.is_apart-apart.result c.requires.stand
    c.edge_count-edges.ensures.live c.raise-change.ensures.raised.joined c.few-before.ensures.least
    (subst (λ (m : KeptMarks). IsTrue c.is_apart-apart.result → IsApart (live c.args.graph.now) m.records c.args.edge.now.target c.args.edge.now.source) c.self.view_is c.is_apart-apart.ensures.apart)

pub returns-in-Ok-None-clause-back : goal.returns-in-Ok-None-clause-back
returns-in-Ok-None-clause-back g c =
    λ none. record { same = c.put_back.ensures.put_back c.args.graph.now c.raise-change.ensures.raised; grown = c.in-Ok-None.ensures.nothing c.in-Ok-None.field-0-is }

pub returns-in-Ok-None-clause-room_stays : goal.returns-in-Ok-None-clause-room_stays
returns-in-Ok-None-clause-room_stays g c = λ e held. c.put_back.ensures.room_stays e (c.raise-change.ensures.room_stays e held)

pub returns-in-Ok-None-clause-numbers_stay : goal.returns-in-Ok-None-clause-numbers_stay
returns-in-Ok-None-clause-numbers_stay g c = λ e n is. c.put_back.ensures.numbers_stay e n (c.raise-change.ensures.numbers_stay e n is)

pub returns-in-Err-clause-unchanged : goal.returns-in-Err-clause-unchanged
returns-in-Err-clause-unchanged g c =
    record { same = c.put_back-in-Err.ensures.put_back c.args.graph.now c.raise-change.ensures.raised; grown = c.in-Err.ensures.grown }

pub returns-in-Err-clause-room_stays : goal.returns-in-Err-clause-room_stays
returns-in-Err-clause-room_stays g c = λ e held. c.put_back-in-Err.ensures.room_stays e (c.raise-change.ensures.room_stays e held)

pub returns-in-Err-clause-numbers_stay : goal.returns-in-Err-clause-numbers_stay
returns-in-Err-clause-numbers_stay g c = λ e n is. c.put_back-in-Err.ensures.numbers_stay e n (c.raise-change.ensures.numbers_stay e n is)

pub returns-in-Ok-Some-clause-ticks : goal.returns-in-Ok-Some-clause-ticks
returns-in-Ok-Some-clause-ticks g c = λ n size.
    let walk = source_within c.requires.stand.edits c.args.edit.now (state_in c.args.graph.now) c.requires.stand.made c.args.edge.now c.requires.edge n size (live c.args.graph.now) c.edge_count-edges.ensures.live in
    let way = c.is_apart-apart.ensures.ticks (2 * n) (way_before (live c.args.graph.now) c.args.edge.now.source n walk) in
    let few = few_short c.few-before.result in
    let first = c.few-before.ensures.ticks in
    let short =
    c.renew_if_short.ensures.ticks
    (stood_before c.args.edit.now c.args.edge.now c.requires.edge (state_in c.args.graph.now) (state_in c.raise-change.new.graph) (live c.args.graph.now) c.args.self.now c.few-before.result c.is_apart-apart.result c.requires.stand
    c.edge_count-edges.ensures.live c.raise-change.ensures.raised.joined c.few-before.ensures.least
    (subst (λ (m : KeptMarks). IsTrue c.is_apart-apart.result → IsApart (live c.args.graph.now) m.records c.args.edge.now.target c.args.edge.now.source) c.self.view_is c.is_apart-apart.ensures.apart))
    n (size_at c.requires.stand.edits c.args.edit.now (state_in c.args.graph.now) c.requires.stand.made c.args.edge.now c.requires.edge n size) in
    omega (arith, way, few, first, short)

pub returns-in-Ok-None-clause-ticks : goal.returns-in-Ok-None-clause-ticks
returns-in-Ok-None-clause-ticks g c = λ n size.
    let walk = source_within c.requires.stand.edits c.args.edit.now (state_in c.args.graph.now) c.requires.stand.made c.args.edge.now c.requires.edge n size (live c.args.graph.now) c.edge_count-edges.ensures.live in
    let way = c.is_apart-apart.ensures.ticks (2 * n) (way_before (live c.args.graph.now) c.args.edge.now.source n walk) in
    let few = few_short c.few-before.result in
    let first = c.few-before.ensures.ticks in
    let short =
    c.renew_if_short.ensures.ticks
    (stood_before c.args.edit.now c.args.edge.now c.requires.edge (state_in c.args.graph.now) (state_in c.raise-change.new.graph) (live c.args.graph.now) c.args.self.now c.few-before.result c.is_apart-apart.result c.requires.stand
    c.edge_count-edges.ensures.live c.raise-change.ensures.raised.joined c.few-before.ensures.least
    (subst (λ (m : KeptMarks). IsTrue c.is_apart-apart.result → IsApart (live c.args.graph.now) m.records c.args.edge.now.target c.args.edge.now.source) c.self.view_is c.is_apart-apart.ensures.apart))
    n (size_at c.requires.stand.edits c.args.edit.now (state_in c.args.graph.now) c.requires.stand.made c.args.edge.now c.requires.edge n size) in
    omega (arith, way, few, first, short)

pub returns-in-Err-clause-ticks : goal.returns-in-Err-clause-ticks
returns-in-Err-clause-ticks g c = λ n size.
    let walk = source_within c.requires.stand.edits c.args.edit.now (state_in c.args.graph.now) c.requires.stand.made c.args.edge.now c.requires.edge n size (live c.args.graph.now) c.edge_count-edges.ensures.live in
    let way = c.is_apart-apart.ensures.ticks (2 * n) (way_before (live c.args.graph.now) c.args.edge.now.source n walk) in
    let few = few_short c.few-before.result in
    let first = c.few-before.ensures.ticks in
    let short =
    c.renew_if_short.ensures.ticks
    (stood_before c.args.edit.now c.args.edge.now c.requires.edge (state_in c.args.graph.now) (state_in c.raise-change.new.graph) (live c.args.graph.now) c.args.self.now c.few-before.result c.is_apart-apart.result c.requires.stand
    c.edge_count-edges.ensures.live c.raise-change.ensures.raised.joined c.few-before.ensures.least
    (subst (λ (m : KeptMarks). IsTrue c.is_apart-apart.result → IsApart (live c.args.graph.now) m.records c.args.edge.now.target c.args.edge.now.source) c.self.view_is c.is_apart-apart.ensures.apart))
    n (size_at c.requires.stand.edits c.args.edit.now (state_in c.args.graph.now) c.requires.stand.made c.args.edge.now c.requires.edge n size) in
    omega (arith, way, few, first, short)
