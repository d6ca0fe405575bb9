-- What `keep` makes of a text.
use Rattle.std.specs.Prelude.{◌≡◌, ℕ, List, ◌++◌, None, Some}
use Rattle.grove_edits.specs.declared.edit.Edit.{Edit}
use Rattle.grove_edits.specs.Graph.{graph}
use Rattle.grove_sorts.specs.declared.version.Version.{Version}
use Rattle.edit_text.specs.Whole.{header, IsTextOf}
use Rattle.grove_answers.specs.Texts.{IsCanonicalText}
use Rattle.edit_journal.specs.LogFile.{IsLogOf}
use Rattle.grove_tools.specs.declared.outcome.Handed.{Handed}

-- The file of the disk handed out is a log with the edits that the text spells, in the order of their lines; and what is written is the
-- canonical text of their graph, behind the line that tells the text's version.
pub record IsKept (text : List ℕ) (handed : Handed) (answer : List ℕ) : Type 0 where
  pub version : Version
  pub edits : List Edit
  pub spelled : IsTextOf text version edits
  pub file : List ℕ
  pub is_handed : handed.kept ≡ Some file
  pub log : IsLogOf edits file
  pub canonical : List ℕ
  pub is_canonical : IsCanonicalText (graph edits) canonical
  pub written : answer ≡ header version ++ canonical
  pub no_journal : handed.relayed ≡ None
