-- The way goes on where a vertex is above, unless that is the target, and ends where nothing is above.
use Rattle.std.proofs.Common.{sym, ◌∙◌, arith}
use Rattle.live_graph.specs.Live.{live}
use Rattle.mark_incremental.proofs.ApartFrom.{begun_apart, more_apart}
use Rattle.mark_incremental.proofs.apart.passes_by.Goals as goal

pub loop-init : goal.loop-init
loop-init g c = (begun_apart (live c.args.graph.now) c.args.target.now c.args.source.now c.requires.other, omega arith)

pub loop-preserved : goal.loop-preserved
loop-preserved g c =
    let more =
    more_apart (live c.args.graph.now) c.args.target.now c.args.source.now c.loop.at c.in-Some.next c.loop.invariant.0 c.in-Some.ensures.above (sym c.is_same_vertex.ensures ∙ c.if-is_same_vertex.false) in
    let len = more.1 in
    let so_far = c.loop.invariant.1 in
    let one = c.above_inner.ensures.ticks in
    (more.0, omega (arith, len, so_far, one))
