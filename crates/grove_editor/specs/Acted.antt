-- What it is to act.
use Rattle.std.specs.Prelude.{◌≡◌, ◌≢◌, ℕ, List, [], ◌∷◌, ◌++◌, map}
use Rattle.edit_text.specs.Line.{spaced}
use Rattle.grove_edits.specs.declared.vertex.Vertex.{Vertex}
use Rattle.grove_edits.specs.declared.edit.Edit.{Edit}
use Rattle.grove_edits.specs.declared.action.Action.{Action}
use Rattle.grove_edits.specs.declared.act_fault.ActFault.{ActFault}
use Rattle.grove_edits.specs.declared.answer.Answer.{Answer}
use Rattle.grove_edits.specs.declared.answer.Answer.TheVariants.{Refused}
use Rattle.grove_edits.specs.Edit.{edit_edge}
use Rattle.grove_edits.specs.Graph.{graph}
use Rattle.grove_undo.specs.declared.change.Change.{Change}
use Rattle.grove_undo.specs.Change.{IsChangeOf}
use Rattle.mark_incremental.specs.Changed.{AreChangedMarks}
use Rattle.replica_core.specs.Canonical.{with_edits}
use Rattle.replica_core.specs.Content.{Content, with_taken}
use Rattle.session_script.specs.Action.{action_parts, IsAuthor, ActionInRange}
use Rattle.user_actions.specs.Plan.{IsPlan}
use Rattle.grove_editor.specs.declared.action_fault.ActionFault.{ActionFault}
use Rattle.grove_editor.specs.declared.action_fault.ActionFault.TheVariants.{NoAuthor, Syntax, NoMemory}
use Rattle.grove_editor.specs.declared.deed.Deed.{Deed}
use Rattle.grove_editor.specs.declared.reply.Reply.TheVariants.{Answered}
use Rattle.grove_editor.specs.Deeds.{deed_by, by_others}
use Rattle.grove_editor.specs.State.{State, replied}

-- the plan of an author's action on the graph of a canonical list, in a block that opens with the edges of that graph
abbrev pub IsPlanned : List Edit → ℕ → Action → List Edit → Answer → Type 0
IsPlanned list author action edits answer = IsPlan (graph list) (map edit_edge list) author action edits answer

-- an author's action was refused, or its edits were taken and what they changed was put behind what was done
pub data HasActed (author : ℕ) (action : Action) (old new : State) : Type 0 where
  act_refused : (fault : ActFault) → IsPlanned old.edits author action [] (Refused fault) → new ≡ replied (Answered (Refused fault)) old → HasActed author action old new
  act_made : (edits : List Edit) (answer : Answer) (change : Change) (changed : List Vertex) → IsPlanned old.edits author action edits answer → ((fault : ActFault) → answer ≢ Refused fault)
      → IsChangeOf (graph old.edits) edits change → AreChangedMarks (graph old.edits) (graph (with_edits edits old.edits)) changed
      → new ≡ record old { edits = with_edits edits old.edits; done = old.done ++ deed_by author change ∷ []; undone = by_others author old.undone; reply = Answered answer; made = edits; changed = changed }
      → HasActed author action old new

-- why an action was not asked for; want of memory says nothing of it
abbrev pub IsActionFault : ℕ → List ℕ → ActionFault → Type 0
IsActionFault author line NoAuthor = IsAuthor author → ⊥
IsActionFault author line Syntax = IsAuthor author × ((action : Action) → ActionInRange action → line ≢ spaced (action_parts action))
IsActionFault author line NoMemory = Unit {0}

-- Inner model, which no public contract cites: the edits of an action were taken, and what they changed stands behind the deeds.
pub record HasDone (author : ℕ) (edits : List Edit) (old new : Content) (deeds more : List Deed) (changed : List Vertex) : Type 0 where
  pub change : Change
  pub is_change : IsChangeOf (graph old.edits) edits change
  pub are_changed : AreChangedMarks (graph old.edits) (graph new.edits) changed
  pub taken : new ≡ with_taken edits old
  pub noted : more ≡ deeds ++ deed_by author change ∷ []
