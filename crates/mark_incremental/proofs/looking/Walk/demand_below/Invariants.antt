-- The positions so far gave what they give in the new graph, and what was counted with what may still be counted is within the bound.
use Rattle.std.proofs.Common.{◌≡◌, ◌+◌, ◌*◌, ◌≤◌, length}
use Rattle.grove_terms.specs.Forest.{edges_under}
use Rattle.live_graph.specs.Live.{live}
use Rattle.mark_step.specs.Expression.{Demanded}
use Rattle.type_core.specs.TypeTable.{KeepsTypes}
use Rattle.ctx_table.specs.CtxTable.{KeepsContexts}
use Rattle.mark_incremental.specs.Reading.{AreRecordsOf}
use Rattle.mark_incremental.specs.Looking.{on}
use Rattle.mark_incremental.specs.Walking.{IsFrameOf, IsStart, start_at}
use Rattle.mark_incremental.specs.Ticks.{still_costs}
use Rattle.mark_incremental.specs.AtConflict.{IsOpenedFor, level_at}
use Rattle.mark_incremental.proofs.looking.Walk.demand_below.Given as goal

abbrev pub invariant-loop : goal.invariant-loop
invariant-loop g l = record {
  opened : (d : Demanded) (place : IsStart (live l.self.graph.now) l.fn.types l.fn.ctxs l.fn.demand (start_at l.edge.source d))
      → IsOpenedFor (live l.self.graph.now) l.types l.ctxs l.self.records.now (on l.self.whole l.self.passed.now) (level_at l.edge.source place.above place.forest d) l.frame;
  vertex : l.frame.vertex.now ≡ l.edge.source;
  numbers : IsFrameOf l.types l.ctxs l.frame;
  counted : l.steps + still_costs (live l.self.graph.now) l.frame l.frame.left ≤ l.fn.steps + 5 + 4 * length (edges_under (live l.self.graph.now) l.edge.source);
  records : AreRecordsOf l.types l.ctxs l.self.records.now;
  types : KeepsTypes l.fn.types l.types;
  contexts : KeepsContexts l.fn.ctxs l.ctxs;
}
