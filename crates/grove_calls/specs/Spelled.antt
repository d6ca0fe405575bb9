-- The canonical list of a text.
use Rattle.std.specs.Prelude.{ℕ, List}
use Rattle.grove_sorts.specs.declared.version.Version.{Version}
use Rattle.grove_edits.specs.declared.edit.Edit.{Edit}
use Rattle.grove_edits.specs.Graph.{graph, IsCanonical}
use Rattle.edit_text.specs.Whole.{IsTextOf}

-- the list is the canonical one of the graph of the edits that the text spells in its version
pub record IsListOf (text : List ℕ) (list : List Edit) : Type 0 where
  pub version : Version
  pub edits : List Edit
  pub spelled : IsTextOf text version edits
  pub canonical : IsCanonical (graph edits) list
