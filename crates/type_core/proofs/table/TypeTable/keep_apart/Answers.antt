use Rattle.std.proofs.Common.{sym, subst}
use Rattle.std.proofs.lemmas.List.Elements.{All-get_or}
use Rattle.type_core.specs.declared.consistency.Task.TheVariants.{Keep}
use Rattle.type_core.proofs.SettleLemmas.{IsApart, all_apart}
use Rattle.type_core.proofs.table.TypeTable.keep_apart.Goals as goal

apart : (c : goal.After-keep-arg-in-Keep-1) → IsApart c.loop-task.self (Keep c.in-Keep.kept)
apart c =
    subst (λ table. IsApart table (Keep c.in-Keep.kept)) (sym c.loop-task.invariant)
    (subst (IsApart c.args.self.now) c.in-Keep.is (All-get_or (IsApart c.args.self.now) c.args.tasks.now c.loop-task.task-index _ c.loop-task-test.true (all_apart c.args.self.now c.args.tasks.now c.requires)))

pub keep-requires-clause-within : goal.keep-requires-clause-within
keep-requires-clause-within c = (apart c).0

pub keep-requires-clause-relation : goal.keep-requires-clause-relation
keep-requires-clause-relation c = (apart c).1
