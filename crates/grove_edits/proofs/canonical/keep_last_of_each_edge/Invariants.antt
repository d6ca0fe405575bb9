use Rattle.grove_edits.proofs.CanonicalLists.{AreCompacted}
use Rattle.grove_edits.proofs.canonical.keep_last_of_each_edge.Given as goal

abbrev pub invariant-loop-i : goal.invariant-loop-i
invariant-loop-i l = AreCompacted l.fn.edits.items l.edits.items l.len l.i
