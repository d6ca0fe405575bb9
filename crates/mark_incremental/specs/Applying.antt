-- What an edit changes of kept marks, and how it is taken back.
use Rattle.std.specs.Prelude.{◌≡◌, Bool, List, [], ◌∷◌, Option, None, Some, IfSome, if◌then◌else◌}
use Rattle.std.specs.List.{AllByRecursion}
use Rattle.grove_edits.specs.declared.vertex.Vertex.{Vertex}
use Rattle.grove_edits.specs.declared.edge.Edge.{Edge}
use Rattle.grove_edits.specs.declared.edit.Edit.{Edit}
use Rattle.grove_edits.specs.Edit.{edit_edge}
use Rattle.grove_edits.specs.Vertex.{is_same_vertex}
use Rattle.grove_edits.specs.Graph.{Graph, graph, IsSame}
use Rattle.graph_words.specs.Whole.{AreLive}
use Rattle.graph_words.specs.States.{Entries, state_in, HasRoom as HasRoomFor}
use Rattle.type_core.specs.Typ.{Typ}
use Rattle.type_core.specs.TypeTable.{KeepsTypes}
use Rattle.ctx_table.specs.Context.{Context}
use Rattle.ctx_table.specs.CtxTable.{KeepsContexts}
use Rattle.kept_records.specs.Kept.{AreKept}
use Rattle.mark_store.specs.declared.record.Record.{Record}
use Rattle.mark_store.specs.Places.{Places, value_at, HasRoom, KeepsRoom, holds}
use Rattle.mark_incremental.specs.declared.applying.OldRecords.{OldRecords}
use Rattle.mark_incremental.specs.declared.applying.Applied.{Applied}
use Rattle.mark_incremental.specs.declared.passing.Ends.{Ends}
use Rattle.mark_incremental.specs.Reading.{IsRecordOf}
use Rattle.mark_incremental.specs.Looking.{AreRoots}
use Rattle.mark_incremental.specs.Passing.{AreWalks}
use Rattle.mark_incremental.specs.Raising.{WasRaised}
use Rattle.mark_incremental.specs.Standing.{KeptMarks, StandFor, kept_in, records_in}

-- the tables have grown, and nothing else changed
pub record HaveGrown (before after : KeptMarks) : Type 0 where
  pub types : KeepsTypes before.types after.types
  pub contexts : KeepsContexts before.contexts after.contexts
  pub records : (v : Vertex) → kept_in after v ≡ kept_in before v
  pub roots : (v : Vertex) → holds after.roots v ≡ holds before.roots v

-- whatever vertices had room for a record, or for being the root of a cycle, have it still
pub record KeepMarksRoom (before after : KeptMarks) : Type 0 where
  pub records : KeepsRoom before.records after.records
  pub roots : KeepsRoom before.roots after.roots

-- what is found of a vertex where some have again what they had, one after the other
abbrev pub put_back_in : List (Vertex × Option Record) → (Vertex → Option Record) → Vertex → Option Record
put_back_in [] found v = found v
put_back_in (m ∷ ms) found v = put_back_in ms (λ u. if is_same_vertex m.0 u then m.1 else found u) v

-- the roots of cycles where one vertex is again what it was
abbrev pub roots_back : Option (Vertex × Bool) → (Vertex → Bool) → Vertex → Bool
roots_back None roots v = roots v
roots_back (Some m) roots v = if is_same_vertex m.0 v then m.1 else roots v

-- these are the records that others replaced: with them put back all is as before, and there is room for that
pub record AreOld (types : List Typ) (ctxs : List Context) (old : List (Vertex × Option Record)) (before after : Places Record) : Type 0 where
  pub back : (v : Vertex) → put_back_in old (value_at after) v ≡ value_at before v
  pub room : AllByRecursion (λ m. HasRoom after m.0) old
  pub numbers : AllByRecursion (λ m. IfSome m.1 (IsRecordOf types ctxs)) old

-- the marks stand for the graph before an edit of this edge, which made the graph, and these are the walks up there from its ends
pub record WasBefore (e : Edge) (g : Graph) (marks : KeptMarks) (ends : Ends) : Type 0 where
  pub edits : List Edit
  pub edit : Edit
  pub of_edge : edit_edge edit ≡ e
  pub made : IsSame g (graph (edit ∷ edits))
  pub live : List Edge
  pub are_live : AreLive (graph edits) live
  pub kept : AreKept (graph edits) live (records_in marks)
  pub rooted : AreRoots live marks.roots
  pub walks : AreWalks live e ends

-- with this put back the marks are as they were before
pub record WasRenewed (old : OldRecords) (before after : KeptMarks) : Type 0 where
  pub records : (v : Vertex) → put_back_in old.records.items (kept_in after) v ≡ kept_in before v
  pub roots : (v : Vertex) → roots_back old.root (holds after.roots) v ≡ holds before.roots v
  pub types : KeepsTypes before.types after.types
  pub contexts : KeepsContexts before.contexts after.contexts

-- there is room to put it back
pub record CanRenewBack (old : OldRecords) (marks : KeptMarks) : Type 0 where
  pub records : AllByRecursion (λ m. HasRoom marks.records m.0) old.records.items
  pub numbers : AllByRecursion (λ m. IfSome m.1 (IsRecordOf marks.types marks.contexts)) old.records.items
  pub root : IfSome old.root (λ m. HasRoom marks.roots m.0)

-- applying the edit, of which this is the receipt, led from the one graph with its marks to the other
pub record WasApplied (edit : Edit) (applied : Applied) (entries : Entries) (marks : KeptMarks) (entries_after : Entries) (marks_after : KeptMarks) : Type 0 where
  pub raised : WasRaised edit applied.change entries entries_after
  pub stood : StandFor (state_in entries) marks
  pub renewed : WasRenewed applied.old marks marks_after

-- and the marks stand for it
pub record IsApplied (edit : Edit) (applied : Applied) (entries : Entries) (marks : KeptMarks) (entries_after : Entries) (marks_after : KeptMarks) : Type 0 where
  pub was : WasApplied edit applied entries marks entries_after marks_after
  pub stand : StandFor (state_in entries_after) marks_after

-- all is as before, but that the tables may have grown
pub record IsBack (entries : Entries) (marks : KeptMarks) (entries_after : Entries) (marks_after : KeptMarks) : Type 0 where
  pub same : IsSame (state_in entries_after) (state_in entries)
  pub grown : HaveGrown marks marks_after

-- it can be taken back without memory
pub record CanTakeBack (edit : Edit) (applied : Applied) (entries : Entries) (marks : KeptMarks) : Type 0 where
  pub room : HasRoomFor entries (edit_edge edit)
  pub renewed : CanRenewBack applied.old marks
