use Rattle.std.proofs.Common.{◌≡◌, ◌≤◌, ◌+◌}
use Rattle.thread_tests.proofs.shared_replica_tests.add_numbers.Given as goal

-- as many calls are left as are still to be made
abbrev pub invariant-loop-number : goal.invariant-loop-number
invariant-loop-number g l = (l.pass.shared ≡ l.shared) × (l.pass.parts ≡ l.initial.pass.parts) × (1000 ≤ l.pass.calls + l.number)
