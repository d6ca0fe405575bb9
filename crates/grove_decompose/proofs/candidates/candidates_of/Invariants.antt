use Rattle.std.proofs.Common.{drop}
use Rattle.grove_decompose.proofs.ByNumber.{AreCandidatesSoFar}
use Rattle.grove_decompose.proofs.candidates.candidates_of.Given as goal

abbrev pub invariant-loop-number : goal.invariant-loop-number
invariant-loop-number l = AreCandidatesSoFar l.table (drop l.number l.table.vertices) l.candidates.items
