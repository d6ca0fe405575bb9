-- Texts with the line that tells their version, and where a text that is none goes wrong.
-- The promise of the commands rests on these definitions.
use Rattle.std.specs.Prelude.{◌≡◌, ◌≢◌, ℕ, ◌+◌, List, [], ◌∷◌, ◌++◌, codes}
use Rattle.grove_sorts.specs.declared.version.Version.{Version}
use Rattle.grove_sorts.specs.declared.version.Version.TheVariants.{One, Two}
use Rattle.grove_edits.specs.declared.edit.Edit.{Edit}
use Rattle.edit_text.specs.declared.line_fault.LineFault.{LineFault}
use Rattle.edit_text.specs.declared.text_fault.TextFault.{TextFault}
use Rattle.edit_text.specs.declared.text_fault.TextFault.TheVariants.{Malformed, Rest, NoMemory}
use Rattle.edit_text.specs.Text.{SpellsAll, IsMalformed, HasRest}

-- what a text of the version begins with
abbrev pub header : Version → List ℕ
header One = []
header Two = codes "grove 2" ++ 10 ∷ []

-- how many lines that is
abbrev pub header_lines : Version → ℕ
header_lines One = 0
header_lines Two = 1

-- the text's version, and what stands behind the line that tells it: a text that does not begin with that line is
-- of version one
pub record HasVersion (text : List ℕ) (version : Version) (body : List ℕ) : Type 0 where
  pub parts : text ≡ header version ++ body
  pub else_one : version ≡ One → (rest : List ℕ) → text ≢ header Two ++ rest

-- the text is of the version, and that of the edits
pub record IsTextOf (text : List ℕ) (version : Version) (edits : List Edit) : Type 0 where
  pub body : List ℕ
  pub has_version : HasVersion text version body
  pub spelled : SpellsAll version body edits

-- the first line without a reading and its first fault, the lines counted with the one that tells the version
pub record IsMalformedText (text : List ℕ) (line : ℕ) (fault : LineFault) : Type 0 where
  pub version : Version
  pub body : List ℕ
  pub line_of_body : ℕ
  pub has_version : HasVersion text version body
  pub malformed : IsMalformed version body line_of_body fault
  pub number : line ≡ header_lines version + line_of_body

-- bytes that no LF ends, and the number of the line that they begin
pub record HasTextRest (text : List ℕ) (line : ℕ) : Type 0 where
  pub version : Version
  pub body : List ℕ
  pub line_of_body : ℕ
  pub has_version : HasVersion text version body
  pub has_rest : HasRest version body line_of_body
  pub number : line ≡ header_lines version + line_of_body

-- why a text was not read; want of memory says nothing of it
abbrev pub HasWholeFault : List ℕ → TextFault → Type 0
HasWholeFault text (Malformed line fault) = IsMalformedText text line fault
HasWholeFault text (Rest line) = HasTextRest text line
HasWholeFault text NoMemory = Unit {0}
