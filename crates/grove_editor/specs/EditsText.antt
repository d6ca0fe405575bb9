-- The text of edits that an editor writes.
use Rattle.std.specs.Prelude.{ℕ, List, [], ◌∷◌, ◌++◌}
use Rattle.grove_sorts.specs.declared.version.Version.TheVariants.{Two}
use Rattle.grove_edits.specs.declared.edit.Edit.{Edit}
use Rattle.edit_text.specs.Text.{text_of}
use Rattle.edit_text.specs.Whole.{header}

-- the lines of the edits behind the one that tells their version, which knows all edits; of no edits there is no line
abbrev pub edits_text : List Edit → List ℕ
edits_text [] = []
edits_text (edit ∷ edits) = header Two ++ text_of (edit ∷ edits)
