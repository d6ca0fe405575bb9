-- What each form answers.
use Rattle.std.specs.Prelude.{◌≡◌, ℕ, List, ◌++◌, ◌∷◌, [], codes, None}
use Rattle.grove_edits.specs.declared.edit.Edit.{Edit}
use Rattle.grove_sorts.specs.declared.version.Version.{Version}
use Rattle.edit_text.specs.Whole.{IsTextOf}
use Rattle.grove_calls.specs.declared.fault.Fault.{Fault}
use Rattle.grove_calls.specs.FirstFault.{IsFirstFaultOfEdits, IsFirstFaultOfSession}
use Rattle.grove_calls.specs.Rules.{Rules}
use Rattle.grove_tools.specs.declared.outcome.Handed.{Handed}
use Rattle.grove_tools.specs.declared.tool.Tool.{Tool}
use Rattle.grove_tools.specs.declared.tool.Tool.TheVariants.{Relay, Infer, Keep, Undo, Json}
use Rattle.grove_tools.specs.Words.{AreOf}
use Rattle.grove_tools.specs.Relay.{IsRelayed}
use Rattle.grove_tools.specs.Infer.{IsTextInferred}
use Rattle.grove_tools.specs.Keep.{IsKept}
use Rattle.grove_tools.specs.Undo.{SpellsFit, SpellsUnfit, IsUndoOf}
use Rattle.grove_tools.specs.Json.{IsJsonOf}

-- what is written where the words are those of no form
abbrev pub usage_text : List ℕ
usage_text = codes "usage: grove_tools relay N | infer | keep | undo N | json" ++ 10 ∷ []

-- the form reads the input
abbrev pub Reads : Tool → Type 0
Reads (Relay senders) = Unit {0}
Reads Infer = Unit {0}
Reads Keep = Unit {0}
Reads (Undo author) = Unit {0}
Reads Json = Unit {0}

-- the text has a reading for the form, which makes something of it
abbrev pub HasReading : Tool → List ℕ → Type 0
HasReading (Relay senders) text = (version : Version) × (edits : List Edit) × IsTextOf text version edits
HasReading Infer text = (version : Version) × (edits : List Edit) × IsTextOf text version edits
HasReading Keep text = (version : Version) × (edits : List Edit) × IsTextOf text version edits
HasReading (Undo author) text = SpellsFit text
HasReading Json text = (version : Version) × (edits : List Edit) × IsTextOf text version edits

abbrev pub nothing_handed : Handed
nothing_handed = record { relayed = None; kept = None }

-- the answer of the form to a text, where this is handed out
abbrev pub IsAnswer : Tool → List ℕ → Handed → List ℕ → Type 0
IsAnswer (Relay senders) text handed answer = IsRelayed senders text handed answer
IsAnswer Infer text handed answer = IsTextInferred text answer × (handed ≡ nothing_handed)
IsAnswer Keep text handed answer = IsKept text handed answer
IsAnswer (Undo author) text handed answer = IsUndoOf author text answer × (handed ≡ nothing_handed)
IsAnswer Json text handed answer = IsJsonOf text answer × (handed ≡ nothing_handed)

-- the first line of a text without a reading for the form, and its first fault
abbrev pub IsFirstFault : Tool → List ℕ → ℕ → Fault → Type 0
IsFirstFault (Relay senders) text line fault = IsFirstFaultOfEdits text line fault
IsFirstFault Infer text line fault = IsFirstFaultOfEdits text line fault
IsFirstFault Keep text line fault = IsFirstFaultOfEdits text line fault
IsFirstFault (Undo author) text line fault = IsFirstFaultOfSession text line fault
IsFirstFault Json text line fault = IsFirstFaultOfEdits text line fault

-- the text has a reading, of which the form makes nothing
abbrev pub IsUnfit : Tool → List ℕ → Type 0
IsUnfit (Relay senders) text = ⊥
IsUnfit Infer text = ⊥
IsUnfit Keep text = ⊥
IsUnfit (Undo author) text = SpellsUnfit text
IsUnfit Json text = ⊥

abbrev pub tool_rules : Rules Tool Handed
tool_rules = record {
  are_of = AreOf;
  reads = Reads;
  has_reading = HasReading;
  is_answer = IsAnswer;
  is_first_fault = IsFirstFault;
  is_unfit = IsUnfit;
  nothing = nothing_handed;
  usage = usage_text;
}
