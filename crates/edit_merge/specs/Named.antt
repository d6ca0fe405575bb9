-- Lines that are known by the name of their edge and by where they stand in a text.
use Rattle.std.specs.Prelude.{◌≡◌, ℕ, suc, ◌+◌, Bool, List, [], ◌∷◌, ◌++◌, length, drop, if◌then◌else◌}
use Rattle.std.specs.Ordering.{is_eq}
use Rattle.grove_names.specs.declared.name.Name.{Name}
use Rattle.grove_names.specs.Name.{name_cmp}
use Rattle.grove_sorts.specs.declared.version.Version.{Version}
use Rattle.grove_edits.specs.declared.edit.Edit.{Edit}
use Rattle.grove_edits.specs.Edge.{IsEdgeOf}
use Rattle.grove_edits.specs.Edit.{edit_edge, edit_kind}
use Rattle.grove_edits.specs.Graph.{graph, IsCanonical}
use Rattle.edit_text.specs.Line.{form}
use Rattle.edit_text.specs.Text.{SpellsAll, line_of, text_of}
use Rattle.edit_merge.specs.declared.named_line.NamedLine.{NamedLine}

-- the line that begins there is that of the edit, of whose edge the version knows all, it ends where it is told to, and the name is that
-- edge's
pub record Stands (version : Version) (text : List ℕ) (line : NamedLine) (edit : Edit) : Type 0 where
  pub after : List ℕ
  pub there : drop line.start text ≡ line_of edit ++ after
  pub ended : line.end ≡ line.start + length (form (edit_kind edit) (edit_edge edit))
  pub of_version : IsEdgeOf version (edit_edge edit)
  pub named : line.name ≡ (edit_edge edit).name

-- each line stands for the edit at its place
abbrev pub StandAll : Version → List ℕ → List NamedLine → List Edit → Type 0
StandAll version text [] [] = Unit {0}
StandAll version text [] (edit ∷ edits) = ⊥
StandAll version text (line ∷ lines) [] = ⊥
StandAll version text (line ∷ lines) (edit ∷ edits) = Stands version text line edit × StandAll version text lines edits

-- the line stands for an edit
abbrev pub DoesStand : Version → List ℕ → NamedLine → Type 0
DoesStand version text line = (edit : Edit) × Stands version text line edit

-- each line does
abbrev pub DoStand : Version → List ℕ → List NamedLine → Type 0
DoStand version text lines = (edits : List Edit) × StandAll version text lines edits

-- the text spells edits for which the lines stand
pub record AreNamed (version : Version) (text : List ℕ) (lines : List NamedLine) : Type 0 where
  pub edits : List Edit
  pub spelled : SpellsAll version text edits
  pub stand : StandAll version text lines edits

abbrev pub has_name : Name → NamedLine → Bool
has_name name line = is_eq (name_cmp line.name name)

-- how many lines at the front have the name
abbrev pub group_length : Name → List NamedLine → ℕ
group_length name [] = 0
group_length name (line ∷ lines) = if has_name name line then suc (group_length name lines) else 0

-- the line stands for an edit that alone is the canonical list of those for which the lines stand
pub record StandsForAll (version : Version) (text : List ℕ) (lines : List NamedLine) (line : NamedLine) : Type 0 where
  pub edits : List Edit
  pub stand : StandAll version text lines edits
  pub edit : Edit
  pub stands : Stands version text line edit
  pub is_canonical : IsCanonical (graph edits) (edit ∷ [])

-- the canonical text of the edits for which the lines stand was appended
pub record IsWritten (version : Version) (text : List ℕ) (lines : List NamedLine) (before after : List ℕ) : Type 0 where
  pub edits : List Edit
  pub stand : StandAll version text lines edits
  pub canonical : List Edit
  pub is_canonical : IsCanonical (graph edits) canonical
  pub appended : after ≡ before ++ text_of canonical
