-- The way so far passes the target nowhere, and three were counted for each vertex.
use Rattle.std.proofs.Common.{◌+◌, ◌*◌, ◌≤◌, length}
use Rattle.live_graph.specs.Live.{live}
use Rattle.mark_incremental.specs.ShortWalks.{IsApartUpTo}
use Rattle.mark_incremental.proofs.apart.passes_by.Given as goal

abbrev pub invariant-loop : goal.invariant-loop
invariant-loop g l = (upto : IsApartUpTo (live l.graph) l.target l.source l.at) × (l.steps ≤ l.fn.steps + 3 * length upto.way)
