use Rattle.std.proofs.Common.{◌-◌, ◌≤◌, length}
use Rattle.edge_lists.specs.Places.{place}
use Rattle.edge_lists.proofs.places.place_in.Given as goal

-- the place lies between the ends
abbrev pub invariant-loop-low : goal.invariant-loop-low
invariant-loop-low g l = record {
  from : l.low ≤ place g.O.ListOrder.order l.edges l.edge l.list;
  to : place g.O.ListOrder.order l.edges l.edge l.list ≤ l.high;
  inside : l.high ≤ length l.list;
}

abbrev pub decreases-loop-low : goal.decreases-loop-low
decreases-loop-low g l = l.high - l.low
