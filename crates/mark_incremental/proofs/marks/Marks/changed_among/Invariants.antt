-- Those of the vertices so far that are judged otherwise are found.
use Rattle.mark_store.specs.Places.{holds}
use Rattle.mark_incremental.specs.Standing.{KeptMarks, records_in}
use Rattle.mark_incremental.specs.Changed.{IsJudgedAlike}
use Rattle.mark_incremental.specs.Before.{WereBefore}
use Rattle.mark_incremental.proofs.Judgements.{IsFoundSoFar}
use Rattle.mark_incremental.proofs.marks.Marks.changed_among.Given as goal

abbrev pub invariant-loop-vertex : goal.invariant-loop-vertex
invariant-loop-vertex l = (was : KeptMarks) → WereBefore was l.self l.before
    → IsFoundSoFar (IsJudgedAlike (records_in was) (records_in l.self) (holds was.roots) (holds l.self.roots)) l.before.vertices.items l.vertex-index l.changed.items
