-- The canonical list of some lines.
use Rattle.std.specs.Prelude.{ℕ, List}
use Rattle.grove_sorts.specs.declared.version.Version.{Version}
use Rattle.grove_edits.specs.declared.edit.Edit.{Edit}
use Rattle.grove_edits.specs.Graph.{graph, IsCanonical}
use Rattle.edit_text.specs.Text.{SpellsAll}

-- the list is the canonical one of the graph of the edits that the lines spell
pub record IsListOfLines (version : Version) (lines : List ℕ) (list : List Edit) : Type 0 where
  pub edits : List Edit
  pub spelled : SpellsAll version lines edits
  pub canonical : IsCanonical (graph edits) list
