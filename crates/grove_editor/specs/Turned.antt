-- What it is to undo, and to redo.
use Rattle.std.specs.Prelude.{◌≡◌, ◌≢◌, ℕ, List, [], ◌∷◌, ◌++◌, length, remove}
use Rattle.grove_edits.specs.declared.vertex.Vertex.{Vertex}
use Rattle.grove_edits.specs.declared.edge.Edge.{Edge}
use Rattle.grove_edits.specs.declared.edit.Edit.{Edit}
use Rattle.grove_edits.specs.Graph.{Graph, graph}
use Rattle.graph_words.specs.Whole.{AreLive}
use Rattle.grove_undo.specs.declared.change.Change.{Change}
use Rattle.grove_undo.specs.declared.undo_fault.UndoFault.{UndoFault}
use Rattle.grove_undo.specs.declared.undo_fault.UndoFault.TheVariants as undo
use Rattle.grove_undo.specs.Change.{IsChangeOf}
use Rattle.grove_undo.specs.Undoing.{IsUndoing, IsUndoFault}
use Rattle.mark_incremental.specs.Changed.{AreChangedMarks}
use Rattle.replica_core.specs.Canonical.{with_edits}
use Rattle.replica_core.specs.Content.{Content, with_taken}
use Rattle.session_script.specs.Action.{IsAuthor}
use Rattle.grove_editor.specs.declared.author_fault.AuthorFault.{AuthorFault}
use Rattle.grove_editor.specs.declared.author_fault.AuthorFault.TheVariants.{NoAuthor, NoMemory}
use Rattle.grove_editor.specs.declared.deed.Deed.{Deed}
use Rattle.grove_editor.specs.declared.reply.Reply.TheVariants.{Undone, Redone, NothingToTurn, NotTurned}
use Rattle.grove_editor.specs.declared.turning.Turned.{Turned}
use Rattle.grove_editor.specs.declared.turning.Turned.TheVariants.{Nothing, Refused, Made}
use Rattle.grove_editor.specs.Deeds.{deed_by, IsLastBy, HasNoneBy}
use Rattle.grove_editor.specs.State.{State, replied}

-- the edits by an author undo a change in a graph, and this is what they change in their turn
pub record IsUndoneBy (now : Graph) (author : ℕ) (change : Change) (edits : List Edit) (back : Change) : Type 0 where
  pub live : List Edge
  pub are_live : AreLive now live
  pub undoing : IsUndoing now live author change edits
  pub is_change : IsChangeOf now edits back

-- the change is not undone, for this reason
pub record IsNotUndone (now : Graph) (author : ℕ) (change : Change) (fault : UndoFault) : Type 0 where
  pub live : List Edge
  pub are_live : AreLive now live
  pub is_fault : IsUndoFault now live author change fault

-- an author's last action that was not undone is undone, or is refused to be, or there is none
pub data HasUndone (author : ℕ) (old new : State) : Type 0 where
  nothing_done : HasNoneBy author old.done → new ≡ replied NothingToTurn old → HasUndone author old new
  not_undone : (index : ℕ) (last : IsLastBy author old.done index) (fault : UndoFault) → fault ≢ undo.NoMemory → IsNotUndone (graph old.edits) author last.deed.change fault
      → new ≡ replied (NotTurned fault) old → HasUndone author old new
  undone : (index : ℕ) (last : IsLastBy author old.done index) (edits : List Edit) (back : Change) (changed : List Vertex) → IsUndoneBy (graph old.edits) author last.deed.change edits back
      → AreChangedMarks (graph old.edits) (graph (with_edits edits old.edits)) changed
      → new ≡ record old { edits = with_edits edits old.edits; done = remove old.done index; undone = old.undone ++ deed_by author back ∷ []; reply = Undone (length edits); made = edits; changed = changed }
      → HasUndone author old new

-- what an author undid last is done again: it is undone in its turn, and what that changes stands behind what was done
pub data HasRedone (author : ℕ) (old new : State) : Type 0 where
  nothing_undone : HasNoneBy author old.undone → new ≡ replied NothingToTurn old → HasRedone author old new
  not_redone : (index : ℕ) (last : IsLastBy author old.undone index) (fault : UndoFault) → fault ≢ undo.NoMemory → IsNotUndone (graph old.edits) author last.deed.change fault
      → new ≡ replied (NotTurned fault) old → HasRedone author old new
  redone : (index : ℕ) (last : IsLastBy author old.undone index) (edits : List Edit) (back : Change) (changed : List Vertex) → IsUndoneBy (graph old.edits) author last.deed.change edits back
      → AreChangedMarks (graph old.edits) (graph (with_edits edits old.edits)) changed
      → new ≡ record old { edits = with_edits edits old.edits; undone = remove old.undone index; done = old.done ++ deed_by author back ∷ []; reply = Redone (length edits); made = edits; changed = changed }
      → HasRedone author old new

-- why an author was not asked for; want of memory says nothing of it
abbrev pub IsAuthorFault : ℕ → AuthorFault → Type 0
IsAuthorFault author NoAuthor = IsAuthor author → ⊥
IsAuthorFault author NoMemory = Unit {0}

-- Inner model, which no public contract cites: an author's last deed of some was undone in a replica, and what undid it stands behind others.
abbrev pub HasTurned : ℕ → Content → Content → List Deed → List Deed → List Deed → List Deed → Turned → Type 0
HasTurned author old new deeds left others more Nothing = HasNoneBy author deeds × (new ≡ old) × (left ≡ deeds) × (more ≡ others)
HasTurned author old new deeds left others more (Refused fault) =
    (index : ℕ) × (last : IsLastBy author deeds index) × (fault ≢ undo.NoMemory) × IsNotUndone (graph old.edits) author last.deed.change fault × (new ≡ old) × (left ≡ deeds) × (more ≡ others)
HasTurned author old new deeds left others more (Made edits changed) =
    (index : ℕ) × (last : IsLastBy author deeds index) × (back : Change) × IsUndoneBy (graph old.edits) author last.deed.change edits back
    × AreChangedMarks (graph old.edits) (graph new.edits) changed.items × (new ≡ with_taken edits old) × (left ≡ remove deeds index) × (more ≡ others ++ deed_by author back ∷ [])
