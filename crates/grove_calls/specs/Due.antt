-- What is due for words, the bytes of the input and what is handed out: an ending and a text.
use Rattle.std.specs.declared.alloc.Global.{Global}
use Rattle.std.specs.Prelude.{String, ◌≡◌, ℕ, ◌<◌, ◌≤◌, List, [], ◌∷◌, ◌++◌, length, codes, decimal}
use Rattle.grove_calls.specs.declared.fault.Fault.{Fault}
use Rattle.grove_calls.specs.declared.ending.Ending.{Ending}
use Rattle.grove_calls.specs.declared.ending.Ending.TheVariants.{Done, Usage, Malformed, TooLong, Unfit, ReadFault, WriteFault, NoMemory}
use Rattle.grove_calls.specs.declared.refusal.Refusal.{Refusal}
use Rattle.grove_calls.specs.declared.refusal.Refusal.TheVariants as refusals
use Rattle.grove_calls.specs.FaultOf.{fault_word}
use Rattle.grove_calls.specs.Rules.{Rules, AreOfNone}

-- how many bytes an input may have
abbrev pub most_bytes : ℕ
most_bytes = 16777216

-- what is written where the input is too long
abbrev pub too_long_text : List ℕ
too_long_text = codes "too long" ++ 10 ∷ []

-- and where the command makes nothing of it
abbrev pub unfit_text : List ℕ
unfit_text = codes "unfit" ++ 10 ∷ []

-- and where a line has no reading
abbrev pub malformed_text : ℕ → Fault → List ℕ
malformed_text line fault = codes "malformed " ++ (decimal line ++ (codes " " ++ (fault_word fault ++ 10 ∷ [])))

module _ {C H : Type 0} where
  abbrev pub IsAnswerTo : Rules C H → C → List ℕ → H → List ℕ → Type 0
  IsAnswerTo rules command text handed answer = rules.is_answer command text handed answer

  -- why the command has no answer to the text; want of memory says nothing of it
  abbrev pub IsRefusal : Rules C H → C → List ℕ → Refusal → Type 0
  IsRefusal rules command text (refusals.Malformed line fault) = rules.is_first_fault command text line fault
  IsRefusal rules command text refusals.Unfit = rules.is_unfit command text
  IsRefusal rules command text refusals.NoMemory = Unit {0}

  -- what is due for the words of a command
  abbrev pub IsCommandDue : Rules C H → C → List ℕ → H → Ending → List ℕ → Type 0
  IsCommandDue rules command text handed Done due = (length text ≤ most_bytes) × rules.is_answer command text handed due
  IsCommandDue rules command text handed (Malformed line fault) due =
      (handed ≡ rules.nothing) × (length text ≤ most_bytes) × rules.is_first_fault command text line fault × (due ≡ malformed_text line fault)
  IsCommandDue rules command text handed Unfit due = (handed ≡ rules.nothing) × (length text ≤ most_bytes) × rules.is_unfit command text × (due ≡ unfit_text)
  IsCommandDue rules command text handed TooLong due = (handed ≡ rules.nothing) × (most_bytes < length text) × (due ≡ too_long_text) × rules.reads command
  IsCommandDue rules command text handed Usage due = ⊥
  IsCommandDue rules command text handed ReadFault due = ⊥
  IsCommandDue rules command text handed WriteFault due = ⊥
  IsCommandDue rules command text handed NoMemory due = ⊥

  -- what is due for any words: the usage line where they are those of no command
  abbrev pub IsDue : Rules C H → List (String Global) → List ℕ → H → Ending → List ℕ → Type 0
  IsDue rules words text handed Usage due = AreOfNone rules words × (handed ≡ rules.nothing) × (due ≡ rules.usage)
  IsDue rules words text handed ending due = (command : C) × rules.are_of command words × IsCommandDue rules command text handed ending due
