-- The graph of no edits is empty.
use Rattle.std.proofs.Common.{sym, subst}
use Rattle.graph_words.specs.States.{Entries, state_in}
use Rattle.mark_incremental.specs.Standing.{StandFor}
use Rattle.mark_tests.proofs.mark_incremental_tests.empty.Goals as goal

pub returns : goal.returns
returns c = record { stand = subst (λ (entries : Entries). StandFor (state_in entries) c.in_ok-marks.marks) (sym c.new-2.ensures.empty) c.in_ok-marks.ensures }
