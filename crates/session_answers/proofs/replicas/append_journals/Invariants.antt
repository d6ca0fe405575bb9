use Rattle.std.proofs.Common.{◌≡◌, ◌+◌, ◌++◌, length}
use Rattle.session_answers.specs.BlockJournals.{block_journals}
use Rattle.session_answers.proofs.replicas.append_journals.Given as goal

abbrev pub invariant-loop-journal : goal.invariant-loop-journal
invariant-loop-journal l = (l.journals ≡ l.initial.journals ++ block_journals l.block 1 l.yielded) × (l.replica ≡ 1 + length l.yielded)
