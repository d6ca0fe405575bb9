-- The records so far are held.
use Rattle.std.proofs.Common.{◌≡◌, take}
use Rattle.std.specs.Prelude.{Option}
use Rattle.grove_edits.specs.declared.vertex.Vertex.{Vertex}
use Rattle.mark_store.specs.declared.record.Record.{Record}
use Rattle.mark_incremental.specs.Applying.{put_back_in}
use Rattle.mark_incremental.specs.Before.{record_before, HoldsListed}
use Rattle.mark_incremental.proofs.changed.hold_records.Given as goal

abbrev pub invariant-loop-vertex : goal.invariant-loop-vertex
invariant-loop-vertex l = record {
  listed : HoldsListed l.before;
  records : (found : Vertex → Option Record) (v : Vertex) → record_before l.before.records found v ≡ put_back_in (take l.vertex-index l.old) (record_before l.initial.before.records found) v;
  roots : l.before.roots ≡ l.initial.before.roots;
}
