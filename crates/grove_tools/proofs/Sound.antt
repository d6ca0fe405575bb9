-- Words are those of one form at most, and a text that has a reading for a form has no fault.
use Rattle.std.specs.declared.alloc.Global.{Global}
use Rattle.std.proofs.Common.{◌≡◌, ℕ, ◌<◌, ◌^◌, true, false, List, [], ◌∷◌, get_or, refl, sym, ap, ◌∙◌, arith}
use Rattle.std.specs.Prelude.{String, ◌==◌, if◌then◌else◌}
use Rattle.std.specs.Str.Parse.{digits_value}
use Rattle.std.proofs.lemmas.Fmt.{decimal_is_IsNumeral}
use Rattle.grove_calls.specs.declared.fault.Fault.{Fault}
use Rattle.grove_calls.specs.Rules.{AreSound}
use Rattle.grove_calls.proofs.Faults.{no_fault_of_edits, no_session_fault}
use Rattle.session_script.proofs.OneSession.{one_session}
use Rattle.undo_answers.specs.Fit.{is_fit}
use Rattle.grove_tools.specs.declared.tool.Tool.{Tool}
use Rattle.grove_tools.specs.declared.tool.Tool.TheVariants.{Relay, Infer, Keep, Undo, Json}
use Rattle.grove_tools.specs.Words.{words_of, IsWithinLimits, AreOf}
use Rattle.grove_tools.specs.Due.{Reads, HasReading, IsFirstFault, IsUnfit, tool_rules}

-- the form that words are of, by the first letter of the first
tool_read : List (List ℕ) → Tool
tool_read (word ∷ []) = if get_or word 0 0 == 107 then Keep else (if get_or word 0 0 == 106 then Json else Infer)
tool_read words = if get_or (get_or words 0 []) 0 0 == 117 then Undo (digits_value 10 (get_or words 1 [])) else Relay (digits_value 10 (get_or words 1 []))

reads_back : (tool : Tool) → IsWithinLimits tool → tool_read (words_of tool) ≡ tool
unfolding tool_read
reads_back (Relay senders) within = ap Relay (decimal_is_IsNumeral senders (omega (arith, within.1))).1
reads_back Infer within = refl
reads_back Keep within = refl
reads_back (Undo author) within = ap Undo (decimal_is_IsNumeral author (omega (arith, within.1))).1
reads_back Json within = refl

one_tool : (words : List (String Global)) (tool other : Tool) → AreOf tool words → AreOf other words → tool ≡ other
one_tool words tool other a b = sym (reads_back tool a.1) ∙ ap tool_read (sym a.0 ∙ b.0) ∙ reads_back other b.1

no_fault : (tool : Tool) (text : List ℕ) (line : ℕ) (fault : Fault) → HasReading tool text → IsFirstFault tool text line fault → ⊥
no_fault (Relay senders) text line fault reading h = no_fault_of_edits text reading.0 reading.1 line fault reading.2 h
no_fault Infer text line fault reading h = no_fault_of_edits text reading.0 reading.1 line fault reading.2 h
no_fault Keep text line fault reading h = no_fault_of_edits text reading.0 reading.1 line fault reading.2 h
no_fault (Undo author) text line fault reading h = no_session_fault text reading.session line fault reading.spelled h
no_fault Json text line fault reading h = no_fault_of_edits text reading.0 reading.1 line fault reading.2 h

no_unfit : (tool : Tool) (text : List ℕ) → HasReading tool text → IsUnfit tool text → ⊥
no_unfit (Relay senders) text reading h = h
no_unfit Infer text reading h = h
no_unfit Keep text reading h = h
no_unfit (Undo author) text reading h =
    let same : reading.session ≡ h.session = one_session text reading.session h.session reading.spelled h.spelled in
    let fits : is_fit h.session ≡ true = sym (ap is_fit same) ∙ reading.fit in
    let both : true ≡ false = sym fits ∙ h.unfit in
    cc
no_unfit Json text reading h = h

unread : (tool : Tool) (text : List ℕ) → (Reads tool → ⊥) → HasReading tool text
unread (Relay senders) text idle = absurd (idle tt)
unread Infer text idle = absurd (idle tt)
unread Keep text idle = absurd (idle tt)
unread (Undo author) text idle = absurd (idle tt)
unread Json text idle = absurd (idle tt)

pub tool_sound : AreSound tool_rules
tool_sound = record { one_command = one_tool; no_fault = no_fault; no_unfit = no_unfit; unread = unread }
