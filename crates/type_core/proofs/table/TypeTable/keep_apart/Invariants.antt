use Rattle.std.proofs.Common.{◌≡◌}
use Rattle.type_core.proofs.table.TypeTable.keep_apart.Given as goal

abbrev pub invariant-loop-task : goal.invariant-loop-task
invariant-loop-task l = (l.self ≡ l.fn.self)
