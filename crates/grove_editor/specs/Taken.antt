-- What it is to take edits from elsewhere.
use Rattle.std.specs.Prelude.{◌≡◌, List, [], length}
use Rattle.grove_edits.specs.declared.vertex.Vertex.{Vertex}
use Rattle.grove_edits.specs.declared.edit.Edit.{Edit}
use Rattle.grove_edits.specs.declared.answer.Answer.TheVariants.{Taken}
use Rattle.grove_edits.specs.Graph.{graph}
use Rattle.edit_text.specs.declared.text_fault.TextFault.{TextFault}
use Rattle.edit_text.specs.declared.text_fault.TextFault.TheVariants.{Malformed, Rest, NoMemory}
use Rattle.mark_incremental.specs.Changed.{AreChangedMarks}
use Rattle.replica_core.specs.Canonical.{with_edits}
use Rattle.grove_editor.specs.declared.reply.Reply.TheVariants.{Answered}
use Rattle.grove_editor.specs.State.{State, without_fed}

-- the edits are joined to the graph and counted, and which marks that changed is told
pub record HasTaken (edits : List Edit) (old new : State) : Type 0 where
  pub changed : List Vertex
  pub are_changed : AreChangedMarks (graph old.edits) (graph (with_edits edits old.edits)) changed
  pub taken : new ≡ record old { edits = with_edits edits old.edits; reply = Answered (Taken (length edits)); made = []; changed = changed }

-- a text that is none is let go of; where memory ran out it stays
abbrev pub after_fault : TextFault → State → State
after_fault (Malformed line fault) state = without_fed state
after_fault (Rest line) state = without_fed state
after_fault NoMemory state = state
