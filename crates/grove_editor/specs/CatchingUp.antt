-- What editors tell and send each other, as text, until one has what the other has.
use Rattle.std.specs.Prelude.{◌≡◌, ℕ, true, List}
use Rattle.grove_sorts.specs.declared.version.Version.{Version}
use Rattle.grove_edits.specs.declared.edit.Edit.{Edit}
use Rattle.grove_edits.specs.Graph.{Graph, graph}
use Rattle.edit_text.specs.Whole.{IsTextOf}
use Rattle.edit_ranges.specs.declared.name_range.NameRange.{NameRange}
use Rattle.edit_ranges.specs.Lacking.{lacking}
use Rattle.edit_ranges.specs.Ranges.{are_ranges}
use Rattle.edit_ranges.specs.Summary.{IsSummaryOf}
use Rattle.edit_ranges.specs.Text.{summary_text}
use Rattle.grove_editor.specs.EditsText.{edits_text}
use Rattle.grove_editor.specs.State.{State}
use Rattle.grove_editor.specs.Taken.{HasTaken}

-- the bytes are the text of the summary of a graph
pub record IsSummaryText (g : Graph) (text : List ℕ) : Type 0 where
  pub ranges : List NameRange
  pub is_summary : IsSummaryOf g ranges
  pub spelled : text ≡ summary_text ranges

-- the bytes are the text of those of the edits that a replica lacks by the text of its summary
pub record IsLackingText (summary : List ℕ) (edits : List Edit) (text : List ℕ) : Type 0 where
  pub ranges : List NameRange
  pub in_order : are_ranges ranges ≡ true
  pub read : summary ≡ summary_text ranges
  pub spelled : text ≡ edits_text (lacking ranges edits)

-- an editor told its summary, and took the edits that another, which had these, answered
pub record HasCaughtUp (edits : List Edit) (old new : State) : Type 0 where
  pub summary : List ℕ
  pub is_told : IsSummaryText (graph old.edits) summary
  pub answer : List ℕ
  pub is_answered : IsLackingText summary edits answer
  pub version : Version
  pub taken : List Edit
  pub is_read : IsTextOf answer version taken
  pub has_taken : HasTaken taken old new
