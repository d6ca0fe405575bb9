-- The records so far are those of the trees of the heads so far.
use Rattle.std.proofs.Common.{◌+◌, ◌*◌, ◌≤◌, take}
use Rattle.live_graph.specs.Live.{live}
use Rattle.type_core.specs.TypeTable.{KeepsTypes}
use Rattle.ctx_table.specs.CtxTable.{KeepsContexts}
use Rattle.mark_incremental.specs.Reading.{AreRecordsOf}
use Rattle.mark_incremental.specs.Looking.{on}
use Rattle.mark_incremental.specs.Walking.{AreMadeOf, HasMadeTrees}
use Rattle.mark_incremental.specs.Ticks.{weight_of}
use Rattle.mark_incremental.proofs.looking.Walk.renew_trees.Given as goal

abbrev pub invariant-loop-head : goal.invariant-loop-head
invariant-loop-head g l = record {
  trees : HasMadeTrees (live l.self.graph.now) l.types l.ctxs l.self.records.now (on l.self.whole l.self.passed.now) (take l.head-index l.heads) l.made.items;
  ticks : l.steps ≤ l.fn.steps + 5 * weight_of (live l.self.graph.now) l.made.items;
  made : AreMadeOf l.types l.ctxs l.made.items;
  records : AreRecordsOf l.types l.ctxs l.self.records.now;
  types : KeepsTypes l.fn.types l.types;
  contexts : KeepsContexts l.fn.ctxs l.ctxs;
}
