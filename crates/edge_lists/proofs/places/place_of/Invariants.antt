use Rattle.std.proofs.Common.{◌-◌, ◌≤◌, length}
use Rattle.edge_lists.specs.Places.{place_of_position}
use Rattle.edge_lists.proofs.places.place_of.Given as goal

-- the place lies between the ends
abbrev pub invariant-loop-low : goal.invariant-loop-low
invariant-loop-low l = record {
  from : l.low ≤ place_of_position l.itself l.position l.edges l.list;
  to : place_of_position l.itself l.position l.edges l.list ≤ l.high;
  inside : l.high ≤ length l.list;
}

abbrev pub decreases-loop-low : goal.decreases-loop-low
decreases-loop-low l = l.high - l.low
