use Rattle.std.proofs.Common.{◌≡◌, ◌++◌, drop}
use Rattle.mark_incremental.specs.Standing.{records_in}
use Rattle.grove_editor.specs.Records.{records_text}
use Rattle.grove_editor.proofs.records.records_of.Given as goal

abbrev pub invariant-loop-vertex : goal.invariant-loop-vertex
invariant-loop-vertex l = record {
  written : l.text.items ++ records_text (records_in l.marks) (drop l.vertex-index l.vertices) ≡ records_text (records_in l.marks) l.vertices;
  same_types : l.types ≡ l.marks.types;
}
