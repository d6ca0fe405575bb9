-- Lines that are read again, each beside its edit.
use Rattle.std.specs.Prelude.{◌≡◌, ℕ, List, ◌++◌, map}
use Rattle.std.specs.List.{All}
use Rattle.grove_sorts.specs.declared.version.Version.{Version}
use Rattle.grove_edits.specs.declared.edit.Edit.{Edit}
use Rattle.grove_edits.specs.Graph.{graph, IsCanonical}
use Rattle.edit_text.specs.Text.{text_of}
use Rattle.edit_merge.specs.declared.edit_line.EditLine.{EditLine}
use Rattle.edit_merge.specs.declared.named_line.NamedLine.{NamedLine}
use Rattle.edit_merge.specs.Named.{Stands, StandAll}

abbrev pub edit_of : EditLine → Edit
edit_of read = read.edit

-- the edits, in turn
abbrev pub edits_of : List EditLine → List Edit
edits_of lines = map edit_of lines

-- the line stands for the edit beside it
abbrev pub IsSpelled : Version → List ℕ → EditLine → Type 0
IsSpelled version text read = Stands version text read.line (edit_of read)

-- each line does
abbrev pub AreSpelled : Version → List ℕ → List EditLine → Type 0
AreSpelled version text lines = All (IsSpelled version text) lines

-- lines were read in turn, each beside its edit
pub record AreRead (version : Version) (text : List ℕ) (lines : List NamedLine) (read : List EditLine) : Type 0 where
  pub stand : StandAll version text lines (edits_of read)
  pub spelled : AreSpelled version text read

-- the canonical text of the edits was appended
pub record AreCopied (lines : List EditLine) (before after : List ℕ) : Type 0 where
  pub canonical : List Edit
  pub is_canonical : IsCanonical (graph (edits_of lines)) canonical
  pub appended : after ≡ before ++ text_of canonical
