use Rattle.std.proofs.Common.{◌≡◌, ◌<◌, ℕ, slice_index_or}
use Rattle.grove_edits.specs.declared.vertex.Vertex.{Vertex}
use Rattle.mark_store.specs.Places.{value_at, HasRoom, KeepsRoom}
use Rattle.mark_store.proofs.vertex_map.VertexMap.reserve_for.Given as goal

-- the vertices so far have room, and no value changed
abbrev pub invariant-loop-vertex : goal.invariant-loop-vertex
invariant-loop-vertex g l = record {
  room : (k : ℕ) (d : Vertex) → k < l.vertex-index → HasRoom l.self (slice_index_or l.vertices k d);
  stays : KeepsRoom l.fn.self l.self;
  same : (v : Vertex) → value_at l.self v ≡ value_at l.fn.self v;
}
