-- What leads on from where the way has come leads up from its start, and three were counted for each vertex.
use Rattle.std.proofs.Common.{◌+◌, ◌*◌, ◌≤◌, List, ◌++◌, length}
use Rattle.grove_edits.specs.declared.vertex.Vertex.{Vertex}
use Rattle.live_graph.specs.Live.{live}
use Rattle.kept_records.specs.Short.{LeadsUp}
use Rattle.mark_incremental.proofs.way.way_up.Given as goal

abbrev pub invariant-loop : goal.invariant-loop
invariant-loop g l = record {
  leads : (ws : List Vertex) (last : Vertex) → LeadsUp (live l.graph) l.top ws last → LeadsUp (live l.graph) l.start (l.vertices.items ++ ws) last;
  ticks : l.steps ≤ l.fn.steps + 3 * length l.vertices.items;
}
