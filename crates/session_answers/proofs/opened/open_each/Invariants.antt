use Rattle.std.proofs.Common.{◌≡◌, map}
use Rattle.replica_core.specs.Content.{with_block}
use Rattle.session_answers.proofs.opened.open_each.Given as goal

abbrev pub invariant-loop-replica : goal.invariant-loop-replica
invariant-loop-replica l = l.opened.items ≡ map with_block l.yielded
