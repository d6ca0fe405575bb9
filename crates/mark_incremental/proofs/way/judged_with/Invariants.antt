-- The set has the ends of the edge and the vertices so far.
use Rattle.std.proofs.Common.{◌≡◌, take}
use Rattle.std.specs.Prelude.{◌||◌}
use Rattle.grove_edits.specs.declared.vertex.Vertex.{Vertex}
use Rattle.grove_edits.specs.Vertex.{is_same_vertex, stands_in}
use Rattle.mark_store.specs.Places.{holds}
use Rattle.mark_incremental.proofs.way.judged_with.Given as goal

abbrev pub invariant-loop-vertex : goal.invariant-loop-vertex
invariant-loop-vertex l = (v : Vertex) → holds l.set v ≡ (stands_in v (take l.vertex-index l.way) || (is_same_vertex l.further v || is_same_vertex l.start v))
