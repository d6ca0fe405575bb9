-- The old records so far are those of the new ones so far.
use Rattle.std.proofs.Common.{◌≡◌, map, take}
use Rattle.mark_store.specs.Places.{value_at}
use Rattle.mark_incremental.proofs.putting.old_records.Given as goal

abbrev pub invariant-loop-vertex : goal.invariant-loop-vertex
invariant-loop-vertex l = l.old.items ≡ map (λ m. (m.0, value_at l.records m.0)) (take l.vertex-index l.made)
