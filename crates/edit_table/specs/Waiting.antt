-- Inner model, which no public contract cites: a table that grows, whose last edits have no records yet.
use Rattle.std.specs.Prelude.{◌+◌, ◌<◌, ◌^◌, ◌++◌, List, map, length}
use Rattle.grove_sorts.specs.declared.ctor.Ctor.{Ctor}
use Rattle.grove_edits.specs.declared.spelled.SpelledEdit.{SpelledEdit}
use Rattle.grove_edits.specs.SpelledEdit.{spelled_edit}
use Rattle.edit_table.specs.declared.vertex_key.VertexKey.{VertexKey}
use Rattle.edit_table.specs.declared.record.Record.{Record}
use Rattle.edit_table.specs.Keys.{vertices_of}
use Rattle.edit_table.specs.Records.{edits_of, AreRecords}
use Rattle.edit_table.specs.Table.{Table}

-- the table that records and the edits behind them stand for
abbrev pub growing_table : List Ctor → List VertexKey → List Record → List SpelledEdit → Table
growing_table ctors keys records waiting = record { edits = edits_of (vertices_of ctors keys) records ++ map spelled_edit waiting; vertices = vertices_of ctors keys }

-- the records are those of the keys, and all of the edits have indices
pub record IsGrowing (ctors : List Ctor) (keys : List VertexKey) (records : List Record) (waiting : List SpelledEdit) : Type 0 where
  pub records_are : AreRecords ctors keys records
  pub few : length records + length waiting < 2 ^ 32
