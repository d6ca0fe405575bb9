-- What a top call answers, by its commands.
use Rattle.std.specs.declared.alloc.Global.{Global}
use Rattle.std.specs.Prelude.{String, ◌≡◌, ℕ, List, Option, Some, None}
use Rattle.grove_calls.specs.declared.fault.Fault.{Fault}

-- For a command of type C, with something of type H that is handed out beside what is written
pub record Rules (C H : Type 0) : Type 1 where
  -- the words are those of the command
  pub are_of : C → List (String Global) → Type 0
  -- the command reads the input
  pub reads : C → Type 0
  -- the text has a reading for the command, which makes something of it
  pub has_reading : C → List ℕ → Type 0
  -- the answer of the command to a text, where this is handed out
  pub is_answer : C → List ℕ → H → List ℕ → Type 0
  -- the first line of a text without a reading for the command, and its first fault
  pub is_first_fault : C → List ℕ → ℕ → Fault → Type 0
  -- the text has a reading, of which the command makes nothing
  pub is_unfit : C → List ℕ → Type 0
  -- what is handed out where there is no answer
  pub nothing : H
  -- what is written where the words are those of no command
  pub usage : List ℕ

module _ {C H : Type 0} where
  -- words are those of one command at most, and a text that has a reading has no fault. What a command that does not read answers comes
  -- for each text
  pub record AreSound (rules : Rules C H) : Type 0 where
    pub one_command : (words : List (String Global)) (command other : C) → rules.are_of command words → rules.are_of other words → command ≡ other
    pub no_fault : (command : C) (text : List ℕ) (line : ℕ) (fault : Fault) → rules.has_reading command text → rules.is_first_fault command text line fault → ⊥
    pub no_unfit : (command : C) (text : List ℕ) → rules.has_reading command text → rules.is_unfit command text → ⊥
    pub unread : (command : C) (text : List ℕ) → (rules.reads command → ⊥) → rules.has_reading command text

  -- the words are those of no command
  abbrev pub AreOfNone : Rules C H → List (String Global) → Type 0
  AreOfNone rules words = (command : C) → rules.are_of command words → ⊥

  -- the words are those of a command that reads
  abbrev pub AskToRead : Rules C H → List (String Global) → Type 0
  AskToRead rules words = (command : C) × rules.are_of command words × rules.reads command

  abbrev pub Reads : Rules C H → C → Type 0
  Reads rules command = rules.reads command

  -- there are words of the command
  abbrev pub IsAsked : Rules C H → C → Type 0
  IsAsked rules command = (words : List (String Global)) × rules.are_of command words

  abbrev pub nothing_of : Rules C H → H
  nothing_of rules = rules.nothing

  abbrev pub usage_of : Rules C H → List ℕ
  usage_of rules = rules.usage

module _ {F C H : Type 0} where
  -- the words are those of the command of a form, and of no command where there is none
  abbrev pub AreFor : Rules C H → (F → C) → Option F → List (String Global) → Type 0
  AreFor rules command None words = AreOfNone rules words
  AreFor rules command (Some form) words = rules.are_of (command form) words

  -- there are words of its command
  abbrev pub IsFormAsked : Rules C H → (F → C) → Option F → Type 0
  IsFormAsked rules command None = Unit {0}
  IsFormAsked rules command (Some form) = IsAsked rules (command form)
