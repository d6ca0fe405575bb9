use Rattle.type_core.specs.TypeTable.{IsTypeOf, KeepsTypes}
use Rattle.mark_tests.proofs.type_core_tests.chain.Given as goal

abbrev pub invariant-loop-i : goal.invariant-loop-i
invariant-loop-i l = IsTypeOf l.table l.t × KeepsTypes l.fn.table l.table
