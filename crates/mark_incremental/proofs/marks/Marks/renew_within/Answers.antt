-- The way is no longer than the size of the edit.
use Rattle.std.proofs.Common.{arith}
use Rattle.live_graph.specs.Live.{live}
use Rattle.kept_records.specs.Change.{near_size}
use Rattle.mark_incremental.proofs.ApartFrom.{way_within}
use Rattle.mark_incremental.proofs.marks.Marks.renew_within.Goals as goal

pub returns-clause-renewed : goal.returns-clause-renewed
returns-clause-renewed g c = λ seen. c.renew_below.ensures.renewed seen c.in_ok-way.ensures.leads

pub returns-in_err-way-clause-ticks : goal.returns-in_err-way-clause-ticks
returns-in_err-way-clause-ticks g c = λ seen near are_near.
    let new = live c.args.graph.now in
    let way = c.way_up.ensures.ticks (near_size seen.old new near) (way_within c.args.edge.now seen.old new near are_near) in
    omega (arith, way)

pub returns-clause-ticks : goal.returns-clause-ticks
returns-clause-ticks g c = λ seen near are_near.
    let new = live c.args.graph.now in
    let way = c.way_up.ensures.ticks (near_size seen.old new near) (way_within c.args.edge.now seen.old new near are_near) in
    let below = c.renew_below.ensures.ticks seen c.in_ok-way.ensures.leads near are_near in
    omega (arith, way, below)
