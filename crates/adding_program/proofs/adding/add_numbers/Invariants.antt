use Rattle.std.proofs.Common.{◌≡◌, ◌≤◌, ◌+◌}
use Rattle.adding_program.proofs.adding.add_numbers.Given as goal

-- as many calls are left as are still to be made
abbrev pub invariant-loop-done : goal.invariant-loop-done
invariant-loop-done g l = (l.pass.shared ≡ l.shared) × (l.pass.parts ≡ l.initial.pass.parts) × (l.times ≤ l.pass.calls + l.done)
