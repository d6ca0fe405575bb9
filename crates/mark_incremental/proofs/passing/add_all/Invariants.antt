-- The vertices so far are in the set.
use Rattle.std.proofs.Common.{◌≡◌, take}
use Rattle.std.specs.Prelude.{◌||◌}
use Rattle.grove_edits.specs.declared.vertex.Vertex.{Vertex}
use Rattle.grove_edits.specs.Vertex.{stands_in}
use Rattle.mark_store.specs.Places.{holds}
use Rattle.mark_incremental.specs.Passing.{HoldsThese}
use Rattle.mark_incremental.proofs.passing.add_all.Given as goal

abbrev pub invariant-loop-vertex : goal.invariant-loop-vertex
invariant-loop-vertex l = record {
  added : (v : Vertex) → holds l.passed.set v ≡ (stands_in v (take l.vertex-index l.vertices) || holds l.initial.passed.set v);
  these : HoldsThese l.passed.set l.passed.vertices.items;
}
