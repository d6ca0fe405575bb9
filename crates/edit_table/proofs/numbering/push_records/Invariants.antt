use Rattle.std.proofs.Common.{◌≡◌, ◌++◌, map, take}
use Rattle.grove_edits.specs.SpelledEdit.{spelled_edit}
use Rattle.edit_table.specs.Keys.{vertices_of, BeginsWith}
use Rattle.edit_table.specs.Records.{edits_of, AreRecords}
use Rattle.edit_table.proofs.numbering.push_records.Given as goal

abbrev pub invariant-loop-index : goal.invariant-loop-index
invariant-loop-index l = record {
  records : AreRecords l.ctors.keys l.keys.keys l.records.items;
  edits : edits_of (vertices_of l.ctors.keys l.keys.keys) l.records.items ≡ edits_of (vertices_of l.fn.ctors.keys l.fn.keys.keys) l.fn.records.items ++ map spelled_edit (take l.index l.edits);
  records_stay : BeginsWith l.records.items l.fn.records.items;
  ctors_stay : BeginsWith l.ctors.keys l.fn.ctors.keys;
  keys_stay : BeginsWith l.keys.keys l.fn.keys.keys;
}
