-- What `json` makes of a text.
use Rattle.std.specs.Prelude.{ℕ, List}
use Rattle.grove_edits.specs.declared.edit.Edit.{Edit}
use Rattle.grove_edits.specs.Graph.{graph}
use Rattle.grove_sorts.specs.declared.version.Version.{Version}
use Rattle.edit_text.specs.Whole.{IsTextOf}
use Rattle.grove_json.specs.JsonText.{IsJsonText}

-- the report of the graph of the edits that the text spells
pub record IsJsonOf (text answer : List ℕ) : Type 0 where
  pub version : Version
  pub edits : List Edit
  pub spelled : IsTextOf text version edits
  pub report : IsJsonText (graph edits) answer
