use Rattle.grove_decompose.proofs.FoundRoots.{AreRootsSoFar}
use Rattle.grove_decompose.proofs.cycles.roots_above.Given as goal

abbrev pub invariant-loop-walk : goal.invariant-loop-walk
invariant-loop-walk l = AreRootsSoFar l.table l.starts l.roots.items l.met l.walk
