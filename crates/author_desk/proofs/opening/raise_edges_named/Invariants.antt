use Rattle.std.proofs.Common.{◌≡◌, ◌-◌, List, ◌++◌}
use Rattle.std.specs.List.{range_with_len}
use Rattle.edge_lattice.specs.declared.state.State.{State}
use Rattle.edge_board.specs.States.{AreAtMost}
use Rattle.author_desk.specs.Cuts.{AreSeenRaised}
use Rattle.author_desk.proofs.opening.raise_edges_named.Given as goal

-- the slots raised so far, and those that are left, are all slots, and whoever sees what the seat has seen and then those that are left
-- raised has seen all of them raised
abbrev pub invariant-loop-slot : goal.invariant-loop-slot
invariant-loop-slot l =
    (l.seat.board ≡ l.fn.seat.board) × (l.seat.parts ≡ l.fn.seat.parts)
    × (l.seat.marks ++ range_with_len l.slot (l.end - l.slot) ≡ l.fn.seat.marks ++ range_with_len l.first (l.end - l.first))
    × AreAtMost l.fn.seat.seen l.seat.seen
    × ((later : List State) → AreAtMost l.seat.seen later → AreSeenRaised later (range_with_len l.slot (l.end - l.slot)) → AreSeenRaised later (range_with_len l.first (l.end - l.first)))
