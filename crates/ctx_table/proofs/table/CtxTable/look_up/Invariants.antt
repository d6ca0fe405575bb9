use Rattle.std.proofs.Common.{◌≡◌}
use Rattle.ctx_table.specs.Context.{look_up}
use Rattle.ctx_table.specs.CtxTable.{IsContextOf, context_at}
use Rattle.ctx_table.proofs.table.CtxTable.look_up.Given as goal

abbrev pub invariant-loop-root : goal.invariant-loop-root
invariant-loop-root l = record {
  within : IsContextOf l.self l.current;
  same : look_up (context_at l.self l.current) l.name ≡ look_up (context_at l.self l.fn.ctx) l.name;
}

abbrev pub decreases-loop-root : goal.decreases-loop-root
decreases-loop-root l = l.current.0
