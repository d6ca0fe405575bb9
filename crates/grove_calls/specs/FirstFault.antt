-- The first line of an input without a reading, and its first fault.
use Rattle.std.specs.Prelude.{◌≡◌, ℕ, List, MatchOption}
use Rattle.edit_text.specs.Whole.{IsMalformedText, HasTextRest}
use Rattle.session_script.specs.declared.script_kind.ScriptKind.{ScriptKind}
use Rattle.session_script.specs.Script.{IsBad}
use Rattle.grove_calls.specs.declared.fault.Fault.{Fault}
use Rattle.grove_calls.specs.declared.fault.Fault.TheVariants.{Rest}
use Rattle.grove_calls.specs.FaultOf.{fault_of_kind, line_fault_in}

-- of a text that spells no edits: bytes behind the last LF, or the fault of a line
abbrev pub IsFirstFaultOfEdits : List ℕ → ℕ → Fault → Type 0
IsFirstFaultOfEdits text line Rest = HasTextRest text line
IsFirstFaultOfEdits text line fault = MatchOption (line_fault_in fault) ⊥ (IsMalformedText text line)

-- of a text that spells no session
pub record IsFirstFaultOfSession (text : List ℕ) (line : ℕ) (fault : Fault) : Type 0 where
  pub kind : ScriptKind
  pub is_bad : IsBad text line kind
  pub is_fault : fault ≡ fault_of_kind kind
