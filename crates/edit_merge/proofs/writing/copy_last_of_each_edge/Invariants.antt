use Rattle.edit_merge.proofs.Copied.{AreCopiedTo}
use Rattle.edit_merge.proofs.writing.copy_last_of_each_edge.Given as goal

abbrev pub invariant-loop-i : goal.invariant-loop-i
invariant-loop-i l = AreCopiedTo l.lines l.i l.fn.out.items l.out.items
