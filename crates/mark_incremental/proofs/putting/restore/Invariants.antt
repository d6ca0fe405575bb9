-- The vertices so far have their old records.
use Rattle.std.proofs.Common.{◌≡◌, take}
use Rattle.grove_edits.specs.declared.vertex.Vertex.{Vertex}
use Rattle.mark_store.specs.Places.{value_at, KeepsRoom}
use Rattle.mark_incremental.specs.Applying.{put_back_in}
use Rattle.mark_incremental.proofs.putting.restore.Given as goal

abbrev pub invariant-loop-vertex : goal.invariant-loop-vertex
invariant-loop-vertex l = record {
  put : (v : Vertex) → value_at l.records v ≡ put_back_in (take l.vertex-index l.old) (value_at l.initial.records) v;
  room_stays : KeepsRoom l.initial.records l.records;
}
