-- The faults of texts among the refusals.
use Rattle.edit_text.specs.declared.text_fault.TextFault.{TextFault}
use Rattle.edit_text.specs.declared.text_fault.TextFault.TheVariants as texts
use Rattle.session_script.specs.declared.script_kind.ScriptFault.{ScriptFault}
use Rattle.session_script.specs.declared.script_kind.ScriptFault.TheVariants as scripts
use Rattle.grove_calls.specs.declared.fault.Fault.TheVariants.{Rest}
use Rattle.grove_calls.specs.declared.refusal.Refusal.{Refusal}
use Rattle.grove_calls.specs.declared.refusal.Refusal.TheVariants.{Malformed, NoMemory}
use Rattle.grove_calls.specs.FaultOf.{fault_of_line, fault_of_kind}

abbrev pub refusal_of_text : TextFault → Refusal
refusal_of_text (texts.Malformed line fault) = Malformed line (fault_of_line fault)
refusal_of_text (texts.Rest line) = Malformed line Rest
refusal_of_text texts.NoMemory = NoMemory

-- and those of sessions
abbrev pub refusal_of_script : ScriptFault → Refusal
refusal_of_script (scripts.Bad line kind) = Malformed line (fault_of_kind kind)
refusal_of_script scripts.NoMemory = NoMemory
