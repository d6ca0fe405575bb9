-- The text that lines of edits make.
use Rattle.std.specs.Prelude.{◌≡◌, ℕ, List}
use Rattle.grove_sorts.specs.declared.version.Version.{Version}
use Rattle.grove_edits.specs.declared.edit.Edit.{Edit}
use Rattle.grove_edits.specs.Graph.{graph, IsCanonical}
use Rattle.edit_text.specs.Text.{SpellsAll, text_of}

-- the text is that of the canonical list of the graph of the edits that the lines spell
pub record IsMerged (version : Version) (lines text : List ℕ) : Type 0 where
  pub edits : List Edit
  pub spelled : SpellsAll version lines edits
  pub canonical : List Edit
  pub is_canonical : IsCanonical (graph edits) canonical
  pub written : text ≡ text_of canonical
