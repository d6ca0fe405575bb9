-- The records so far, with those that are made for what is open, are those of the walk down.
use Rattle.std.proofs.Common.{◌*◌, ◌∷◌}
use Rattle.std.specs.Prelude.{reverse}
use Rattle.mark_step.specs.Expression.{Demanded}
use Rattle.live_graph.specs.Live.{live}
use Rattle.type_core.specs.TypeTable.{KeepsTypes}
use Rattle.ctx_table.specs.CtxTable.{KeepsContexts}
use Rattle.mark_incremental.specs.Reading.{AreRecordsOf}
use Rattle.mark_incremental.specs.Looking.{on}
use Rattle.mark_incremental.specs.Walking.{IsStart, start_at, IsUnderWay, AreFramesOf, AreMadeOf, meant}
use Rattle.mark_incremental.specs.Ticks.{weight_of, AreCounted}
use Rattle.mark_incremental.proofs.looking.Walk.renew_from.Given as goal

abbrev pub invariant-loop : goal.invariant-loop
invariant-loop g l = record {
  way : (d : Demanded) → IsStart (live l.self.graph.now) l.fn.types l.fn.ctxs l.fn.demand (start_at l.start d)
      → IsUnderWay (live l.self.graph.now) l.types l.ctxs l.self.records.now (on l.self.whole l.self.passed.now) (start_at l.start d) (meant l.types l.ctxs l.fn.made.items) (l.innermost ∷ reverse l.outer.items) l.made.items;
  counted : AreCounted (live l.self.graph.now) l.fn.steps (5 * weight_of (live l.self.graph.now) l.fn.made.items) l.steps (l.innermost ∷ reverse l.outer.items) l.made.items;
  frames : AreFramesOf l.types l.ctxs (l.innermost ∷ reverse l.outer.items);
  made : AreMadeOf l.types l.ctxs l.made.items;
  before : AreMadeOf l.types l.ctxs l.fn.made.items;
  records : AreRecordsOf l.types l.ctxs l.self.records.now;
  types : KeepsTypes l.fn.types l.types;
  contexts : KeepsContexts l.fn.ctxs l.ctxs;
}
