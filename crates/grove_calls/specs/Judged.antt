-- That a text spells edits or has a first fault.
use Rattle.std.specs.Prelude.{◌⊎◌, ℕ, List}
use Rattle.grove_sorts.specs.declared.version.Version.{Version}
use Rattle.grove_edits.specs.declared.edit.Edit.{Edit}
use Rattle.edit_text.specs.declared.line_fault.LineFault.{LineFault}
use Rattle.edit_text.specs.Text.{SpellsAll, IsMalformed, HasRest}
use Rattle.edit_text.specs.Whole.{IsTextOf}
use Rattle.grove_calls.specs.declared.fault.Fault.{Fault}
use Rattle.grove_calls.specs.FirstFault.{IsFirstFaultOfEdits}

-- the lines are those of edits, or one of them is the first without a reading, or bytes are left that no LF ends
abbrev pub LinesAreJudged : Version → List ℕ → Type 0
LinesAreJudged version lines =
    ((edits : List Edit) × SpellsAll version lines edits)
    ⊎ (((line : ℕ) × (fault : LineFault) × IsMalformed version lines line fault) ⊎ ((line : ℕ) × HasRest version lines line))

-- the text spells edits, or it has a first fault
abbrev pub HasEditsOrFault : List ℕ → Type 0
HasEditsOrFault text = ((version : Version) × (edits : List Edit) × IsTextOf text version edits) ⊎ ((line : ℕ) × (fault : Fault) × IsFirstFaultOfEdits text line fault)
