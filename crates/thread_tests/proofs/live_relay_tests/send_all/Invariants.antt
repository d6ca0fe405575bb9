use Rattle.std.proofs.Common.{◌≡◌}
use Rattle.thread_tests.proofs.live_relay_tests.send_all.Given as goal

abbrev pub invariant-loop-edit : goal.invariant-loop-edit
invariant-loop-edit g l = (l.sender.relay ≡ l.relay) × (l.sender.number ≡ l.fn.sender.number)

abbrev pub invariant-loop : goal.invariant-loop
invariant-loop g l = (l.sender.relay ≡ l.relay) × (l.sender.number ≡ l.fn.sender.number)
