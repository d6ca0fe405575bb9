-- The marks stand for the graph of the lines so far.
use Rattle.graph_words.specs.States.{state_in}
use Rattle.mark_incremental.specs.Standing.{StandFor}
use Rattle.mark_tests.proofs.mark_incremental_tests.take_counting.Given as goal

abbrev pub invariant-loop-line : goal.invariant-loop-line
invariant-loop-line g l = StandFor (state_in l.live.graph) l.live.marks
