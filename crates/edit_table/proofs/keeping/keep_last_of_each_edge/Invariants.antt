use Rattle.edit_table.proofs.KeptRecords.{AreKept}
use Rattle.edit_table.proofs.keeping.keep_last_of_each_edge.Given as goal

abbrev pub invariant-loop-i : goal.invariant-loop-i
invariant-loop-i l = AreKept l.fn.records.items l.records.items l.len l.i
