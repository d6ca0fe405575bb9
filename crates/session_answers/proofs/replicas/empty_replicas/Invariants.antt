use Rattle.std.proofs.Common.{◌≡◌}
use Rattle.std.specs.Prelude.{replicate}
use Rattle.replica_core.specs.Content.{no_edits}
use Rattle.session_answers.proofs.replicas.empty_replicas.Given as goal

abbrev pub invariant-loop-made : goal.invariant-loop-made
invariant-loop-made l = l.replicas.items ≡ replicate l._made no_edits
