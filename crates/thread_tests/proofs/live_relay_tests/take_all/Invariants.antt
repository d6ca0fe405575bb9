use Rattle.std.proofs.Common.{◌≡◌}
use Rattle.thread_tests.proofs.live_relay_tests.take_all.Given as goal

abbrev pub invariant-loop : goal.invariant-loop
invariant-loop g l = l.receiver.relay ≡ l.relay
