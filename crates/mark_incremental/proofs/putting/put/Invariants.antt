-- What is put so far stands behind what is left.
use Rattle.std.proofs.Common.{◌≡◌, List, ◌++◌, vec_len}
use Rattle.std.specs.List.{AllByRecursion}
use Rattle.grove_edits.specs.declared.vertex.Vertex.{Vertex}
use Rattle.mark_store.specs.declared.record.Record.{Record}
use Rattle.mark_store.specs.Places.{value_at, HasRoom, KeepsRoom}
use Rattle.mark_incremental.specs.Standing.{put_in}
use Rattle.mark_incremental.proofs.putting.put.Given as goal

abbrev pub invariant-loop-newest : goal.invariant-loop-newest
invariant-loop-newest l = record {
  put : (rest : List (Vertex × Record)) × (l.left.items ++ rest ≡ l.initial.left.items) × ((v : Vertex) → value_at l.records v ≡ put_in rest (value_at l.initial.records) v);
  room : AllByRecursion (λ m. HasRoom l.records m.0) l.left.items;
  room_stays : KeepsRoom l.initial.records l.records;
}

abbrev pub decreases-loop-newest : goal.decreases-loop-newest
decreases-loop-newest l = vec_len l.left
