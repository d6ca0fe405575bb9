-- The texts of an editor, and when one that was made may be given again.
use Rattle.std.specs.Prelude.{◌≡◌, ℕ, List, Option, Some, None}
use Rattle.grove_editor.specs.State.{State}
use Rattle.grove_edits.specs.declared.vertex.Vertex.{Vertex}
use Rattle.grove_edits.specs.Graph.{graph}
use Rattle.grove_answers.specs.Texts.{IsPrintText}
use Rattle.grove_json.specs.JsonText.{IsJsonText}
use Rattle.grove_editor.specs.CatchingUp.{IsSummaryText}
use Rattle.grove_editor.specs.EditsText.{edits_text}
use Rattle.grove_editor.specs.Told.{reply_text}
use Rattle.grove_editor.specs.Records.{AreRecordsTold, IsRecordTold, vertex_text}
use Rattle.grove_c.specs.declared.text_kind.TextKind.{TextKind}
use Rattle.grove_c.specs.declared.text_kind.TextKind.TheVariants.{Print, Canonical, Json, Answer, Edits, Changed, Summary}
use Rattle.grove_c.specs.declared.instance.MadeText.{MadeText}

-- the numbers that C has for them
abbrev pub number_of : TextKind → ℕ
number_of Print = 0
number_of Canonical = 1
number_of Json = 2
number_of Answer = 3
number_of Edits = 4
number_of Changed = 5
number_of Summary = 6

-- these bytes are the text of this kind of an editor in this state
abbrev pub IsTextOf : State → TextKind → List ℕ → Type 0
IsTextOf state Print text = IsPrintText (graph state.edits) text
IsTextOf state Canonical text = text ≡ edits_text state.edits
IsTextOf state Json text = IsJsonText (graph state.edits) text
IsTextOf state Answer text = text ≡ reply_text state.reply
IsTextOf state Edits text = text ≡ edits_text state.made
IsTextOf state Changed text = AreRecordsTold (graph state.edits) state.changed text
IsTextOf state Summary text = IsSummaryText (graph state.edits) text

-- the editor has a text for which C has this number, and these bytes are that text
pub record IsTextNumbered (state : State) (number : ℕ) (text : List ℕ) : Type 0 where
  pub kind : TextKind
  pub numbered : number_of kind ≡ number
  pub is_text : IsTextOf state kind text

-- a text that is kept is that of the editor as it is
abbrev pub IsKept : State → Option MadeText → Type 0
IsKept state None = Unit {0}
IsKept state (Some text) = IsTextOf state text.kind text.bytes.items

-- these words name a vertex of the graph, and this is its record
pub record IsRecordOf (state : State) (words text : List ℕ) : Type 0 where
  pub vertex : Vertex
  pub named : words ≡ vertex_text vertex
  pub told : IsRecordTold (graph state.edits) vertex text
