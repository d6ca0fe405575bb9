use Rattle.std.proofs.Common.{◌≡◌}
use Rattle.thread_tests.proofs.shared_replica_tests.sees_cut.Given as goal

-- the seat stays at its board, with its parts
abbrev pub invariant-loop : goal.invariant-loop
invariant-loop l = (l.seat.board ≡ l.initial.seat.board) × (l.seat.parts ≡ l.initial.seat.parts)
