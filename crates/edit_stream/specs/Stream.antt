-- What a stream of edits keeps between two pieces, and what a piece makes of it.
use Rattle.std.specs.Prelude.{◌≡◌, ℕ, ◌+◌, ◌-◌, ◌^◌, min, List, [], ◌∷◌, ◌++◌, length, Option, Some, None}
use Rattle.text_parts.specs.Separated.{Lacks}
use Rattle.grove_sorts.specs.declared.version.Version.{Version}
use Rattle.grove_edits.specs.declared.edit.Edit.{Edit}
use Rattle.edit_text.specs.declared.line_fault.LineFault.{LineFault}
use Rattle.edit_text.specs.Line.{HasFault}
use Rattle.edit_text.specs.Text.{text_of, AreOf}

-- the version of the lines, the bytes behind the last LF, the number of lines that were read, and the fault of the line behind them
pub record StreamState : Type 0 where
  pub version : Version
  pub kept : List ℕ
  pub lines : ℕ
  pub fault : Option LineFault

-- nothing was fed
abbrev pub fresh : Version → StreamState
fresh version = record { version = version; kept = []; lines = 0; fault = None }

-- a count of lines stays at the greatest number of 64 bits
abbrev pub line_count : ℕ → ℕ
line_count lines = min lines (2 ^ 64 - 1)

-- the number, from 1, of the line behind those that were read
abbrev pub next_line : StreamState → ℕ
next_line stream = line_count (stream.lines + 1)

-- the text is the lines of the edits, and behind them bytes that no LF ends
pub record Leaves (version : Version) (text : List ℕ) (edits : List Edit) (rest : List ℕ) : Type 0 where
  pub parts : text ≡ text_of edits ++ rest
  pub of_version : AreOf version edits
  pub unended : Lacks 10 rest

-- behind the lines of the edits an LF ends a line that has the fault
pub record StopsAt (version : Version) (text : List ℕ) (edits : List Edit) (fault : LineFault) : Type 0 where
  pub bad : List ℕ
  pub after : List ℕ
  pub parts : text ≡ text_of edits ++ (bad ++ 10 ∷ after)
  pub of_version : AreOf version edits
  pub one_line : Lacks 10 bad
  pub has_fault : HasFault version bad fault

-- the text gives the edits, and leaves bytes to keep or stops at a fault
abbrev pub Reads : Version → List ℕ → List Edit → List ℕ → Option LineFault → Type 0
Reads version text edits kept None = Leaves version text edits kept
Reads version text edits kept (Some fault) = StopsAt version text edits fault × (kept ≡ [])

-- what a piece makes of a stream, by the fault that the stream has
abbrev pub FeedsBy : Option LineFault → StreamState → List ℕ → List Edit → StreamState → Type 0
FeedsBy None old piece edits new =
    Reads old.version (old.kept ++ piece) edits new.kept new.fault × (new.lines ≡ line_count (old.lines + length edits)) × (new.version ≡ old.version)
FeedsBy (Some fault) old piece edits new = (edits ≡ []) × (new ≡ old)

-- the piece gives the edits and makes the new stream of the old one: a stream with a fault stays as it is
abbrev pub Feeds : StreamState → List ℕ → List Edit → StreamState → Type 0
Feeds old piece edits new = FeedsBy old.fault old piece edits new

-- the piece's edits were appended
abbrev pub HasFed : StreamState → List ℕ → StreamState → List Edit → List Edit → Type 0
HasFed old piece new before after = (edits : List Edit) × Feeds old piece edits new × (after ≡ before ++ edits)

-- the pieces, one after the other, give the edits
abbrev pub FeedsAll : StreamState → List (List ℕ) → List Edit → StreamState → Type 0
FeedsAll old [] edits new = (edits ≡ []) × (new ≡ old)
FeedsAll old (piece ∷ pieces) edits new =
    (middle : StreamState) × (some : List Edit) × (more : List Edit)
    × Feeds old piece some middle × FeedsAll middle pieces more new × (edits ≡ some ++ more)
