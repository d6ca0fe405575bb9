-- What `infer` makes of a text.
use Rattle.std.specs.Prelude.{ℕ, List}
use Rattle.grove_edits.specs.declared.edit.Edit.{Edit}
use Rattle.grove_edits.specs.Graph.{graph}
use Rattle.grove_sorts.specs.declared.version.Version.{Version}
use Rattle.edit_text.specs.Whole.{IsTextOf}
use Rattle.infer_answers.specs.Texts.{IsInferText}

-- the answer tells the types of the holes of the graph of the edits that the text spells
pub record IsTextInferred (text answer : List ℕ) : Type 0 where
  pub version : Version
  pub edits : List Edit
  pub spelled : IsTextOf text version edits
  pub inferred : IsInferText (graph edits) answer
