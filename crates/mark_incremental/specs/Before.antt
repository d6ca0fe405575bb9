-- Inner model, which no public contract cites: what vertices were before some edits, held for those that the edits concerned.
use Rattle.std.specs.Prelude.{◌≡◌, Bool, true, false, Option, None, unwrap_or}
use Rattle.grove_edits.specs.declared.vertex.Vertex.{Vertex}
use Rattle.grove_edits.specs.Vertex.{stands_in}
use Rattle.type_core.specs.TypeTable.{KeepsTypes}
use Rattle.ctx_table.specs.CtxTable.{KeepsContexts}
use Rattle.mark_store.specs.declared.record.Record.{Record}
use Rattle.mark_store.specs.Places.{Places, value_at, holds}
use Rattle.mark_incremental.specs.declared.changed.Before.{Before}
use Rattle.mark_incremental.specs.Reading.{kept_by, AreRecordsOf}
use Rattle.mark_incremental.specs.Standing.{KeptMarks, kept_in}
use Rattle.mark_incremental.specs.Changed.{Judgement, judgement}

-- what a record judges, read through the tables
abbrev pub judgement_by : KeptMarks → Record → Judgement
judgement_by marks r = judgement (kept_by marks.types marks.contexts r)

-- the record that a vertex had, which is the one that is found now where none is held
abbrev pub record_before : Places (Option Record) → (Vertex → Option Record) → Vertex → Option Record
record_before records found v = unwrap_or (value_at records v) (found v)

-- whether it was the root of a cycle
abbrev pub root_before : Places Bool → (Vertex → Bool) → Vertex → Bool
root_before roots found v = unwrap_or (value_at roots v) (found v)

-- each vertex of which something is held is listed
pub record HoldsListed (before : Before) : Type 0 where
  pub records : (v : Vertex) → stands_in v before.vertices.items ≡ false → value_at before.records v ≡ None
  pub roots : (v : Vertex) → stands_in v before.vertices.items ≡ false → value_at before.roots v ≡ None

-- with what is held the marks are what they were
pub record WereBefore (was now : KeptMarks) (before : Before) : Type 0 where
  pub records : (v : Vertex) → record_before before.records (kept_in now) v ≡ kept_in was v
  pub roots : (v : Vertex) → root_before before.roots (holds now.roots) v ≡ holds was.roots v
  pub types : KeepsTypes was.types now.types
  pub contexts : KeepsContexts was.contexts now.contexts
  pub numbers : AreRecordsOf was.types was.contexts was.records
