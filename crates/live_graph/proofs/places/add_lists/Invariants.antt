use Rattle.std.proofs.Common.{◌≡◌, ◌+◌, ◌-◌, ℕ, length}
use Rattle.edge_lists.specs.Lists.{listed_at}
use Rattle.live_graph.proofs.places.add_lists.Given as goal

-- a new list has what no list has
abbrev pub invariant-loop-lists : goal.invariant-loop-lists
invariant-loop-lists g l = (n : ℕ) → listed_at l.lists n ≡ listed_at l.fn.lists n

abbrev pub decreases-loop-lists : goal.decreases-loop-lists
decreases-loop-lists g l = l.vertex + 1 - length l.lists
