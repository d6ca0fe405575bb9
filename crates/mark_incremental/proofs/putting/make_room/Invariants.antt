-- There is room for the records so far.
use Rattle.std.proofs.Common.{◌≡◌, take}
use Rattle.std.specs.List.{AllByRecursion}
use Rattle.grove_edits.specs.declared.vertex.Vertex.{Vertex}
use Rattle.mark_store.specs.Places.{value_at, HasRoom, KeepsRoom}
use Rattle.mark_incremental.proofs.putting.make_room.Given as goal

abbrev pub invariant-loop-vertex : goal.invariant-loop-vertex
invariant-loop-vertex l = record {
  room : AllByRecursion (λ m. HasRoom l.records m.0) (take l.vertex-index l.made);
  unchanged : (v : Vertex) → value_at l.records v ≡ value_at l.initial.records v;
  room_stays : KeepsRoom l.initial.records l.records;
}
