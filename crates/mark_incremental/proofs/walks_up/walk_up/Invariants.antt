-- The vertices so far are the first of the walk, and three were counted for each but the last.
use Rattle.std.proofs.Common.{◌+◌, ◌*◌, ◌≤◌, length}
use Rattle.mark_incremental.specs.Passing.{IsUpTo}
use Rattle.mark_incremental.proofs.walks_up.walk_up.Given as goal

abbrev pub invariant-loop : goal.invariant-loop
invariant-loop g l = record {
  up : IsUpTo (g.P.ParentOf.live l.parents) l.start l.at l.passed l.vertices.items;
  ticks : l.steps + 3 ≤ l.fn.steps + 3 * length l.vertices.items;
}
