use Rattle.std.proofs.Common.{◌≡◌, true}
use Rattle.type_core.proofs.SettleLemmas.{IsSettling, tasks_size}
use Rattle.type_core.proofs.table.TypeTable.settle.Given as goal

abbrev pub invariant-loop-task : goal.invariant-loop-task
invariant-loop-task l = record {
  same : l.self ≡ l.fn.self;
  settling : IsSettling l.self l.fn.pairing l.tasks.items true;
}

abbrev pub decreases-loop-task : goal.decreases-loop-task
decreases-loop-task l = tasks_size l.self l.tasks.items
