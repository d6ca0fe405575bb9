-- The text of a list of edits, and where a text that is none goes wrong.
-- The promise of the commands rests on these definitions.
use Rattle.std.specs.Prelude.{◌≡◌, ◌≢◌, ℕ, ◌+◌, List, [], ◌∷◌, ◌++◌, length}
use Rattle.std.specs.List.{flat_map, AllByRecursion}
use Rattle.text_parts.specs.Separated.{Lacks}
use Rattle.grove_sorts.specs.declared.version.Version.{Version}
use Rattle.grove_edits.specs.declared.edit.Edit.{Edit}
use Rattle.grove_edits.specs.Edge.{IsEdgeOf}
use Rattle.grove_edits.specs.Edit.{edit_edge, edit_kind}
use Rattle.edit_text.specs.declared.line_fault.LineFault.{LineFault}
use Rattle.edit_text.specs.declared.text_fault.TextFault.{TextFault}
use Rattle.edit_text.specs.declared.text_fault.TextFault.TheVariants.{Malformed, Rest, NoMemory}
use Rattle.edit_text.specs.Line.{form, HasFault}

-- an edit's line and its LF
abbrev pub line_of : Edit → List ℕ
line_of edit = form (edit_kind edit) (edit_edge edit) ++ 10 ∷ []

-- the lines of edits, one after the other
abbrev pub text_of : List Edit → List ℕ
text_of edits = flat_map line_of edits

-- the version knows all of each edit
abbrev pub AreOf : Version → List Edit → Type 0
AreOf version edits = AllByRecursion (λ edit. IsEdgeOf version (edit_edge edit)) edits

-- the text is that of the edits, in the version
abbrev pub SpellsAll : Version → List ℕ → List Edit → Type 0
SpellsAll version text edits = (text ≡ text_of edits) × AreOf version edits

-- behind the lines of some edits stands a line without a reading, ended by an LF: the first of its kind, since
-- each edit has one line
pub record IsMalformed (version : Version) (text : List ℕ) (line : ℕ) (fault : LineFault) : Type 0 where
  pub before : List Edit
  pub of_version : AreOf version before
  pub bad : List ℕ
  pub after : List ℕ
  pub parts : text ≡ text_of before ++ (bad ++ 10 ∷ after)
  pub one_line : Lacks 10 bad
  pub has_fault : HasFault version bad fault
  pub number : line ≡ length before + 1

-- behind the lines of some edits stand bytes that no LF ends
pub record HasRest (version : Version) (text : List ℕ) (line : ℕ) : Type 0 where
  pub before : List Edit
  pub of_version : AreOf version before
  pub rest : List ℕ
  pub parts : text ≡ text_of before ++ rest
  pub unended : Lacks 10 rest
  pub something : rest ≢ []
  pub number : line ≡ length before + 1

-- why a text was not read; want of memory says nothing of it
abbrev pub HasTextFault : Version → List ℕ → TextFault → Type 0
HasTextFault version text (Malformed line fault) = IsMalformed version text line fault
HasTextFault version text (Rest line) = HasRest version text line
HasTextFault version text NoMemory = Unit {0}
