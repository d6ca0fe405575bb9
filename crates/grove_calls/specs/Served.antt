-- What each ending of a call says of the words, of the input, of what is handed out and of what was written.
use Rattle.std.specs.declared.alloc.Global.{Global}
use Rattle.std.specs.Prelude.{String, ◌≡◌, ◌⊎◌, ℕ, ◌+◌, ◌<◌, ◌≤◌, List, [], length, take, Option, Some}
use Rattle.grove_io.specs.Outside.{HasRisen, Gave, Took, IsAtEnd}
use Rattle.grove_calls.specs.declared.ending.Ending.{Ending}
use Rattle.grove_calls.specs.declared.ending.Ending.TheVariants.{Done, Usage, Malformed, TooLong, Unfit, ReadFault, WriteFault, NoMemory}
use Rattle.grove_calls.specs.Rules.{Rules, AskToRead}
use Rattle.grove_calls.specs.Due.{IsDue, most_bytes}

-- a source and a sink at one moment: the bytes left and taken, where they are told, and the counts of faults
pub record Outside : Type 0 where
  pub left : Option (List ℕ)
  pub read_faults : ℕ
  pub taken : Option (List ℕ)
  pub write_faults : ℕ

-- A text was written whole and its ending answered, or the sink failed on the way
abbrev pub Wrote : Ending → List ℕ → Option (List ℕ) → Option (List ℕ) → ℕ → ℕ → Ending → Type 0
Wrote ending due before after faults later result =
    ((result ≡ ending) × Took before due after)
    ⊎ ((result ≡ WriteFault) × HasRisen faults later × ((count : ℕ) × (count < length due) × Took before (take count due) after))

module _ {C H : Type 0} where
  -- The source gave a text, and the whole text that is due for it and what is handed out with this ending was written.
  pub record Answers (rules : Rules C H) (words : List (String Global)) (before after : Outside) (handed : H) (ending : Ending) : Type 0 where
    pub text : List ℕ
    pub due : List ℕ
    pub gave : Gave before.left text after.left
    pub is_due : IsDue rules words text handed ending due
    pub took : Took before.taken due after.taken

  -- As much was read as the command of the words reads: all of the input, or nothing.
  pub record IsRead (rules : Rules C H) (words : List (String Global)) (text : List ℕ) (left : Option (List ℕ)) : Type 0 where
    pub command : C
    pub are : rules.are_of command words
    pub read : (rules.reads command × IsAtEnd left) ⊎ ((rules.reads command → ⊥) × (text ≡ []))

  -- How much of the input was read for an ending: nothing for the usage line, no more than shows that it is too long, and else what the
  -- command reads
  abbrev pub IsReadFor : Rules C H → List (String Global) → Ending → List ℕ → Option (List ℕ) → Type 0
  IsReadFor rules words Usage text left = text ≡ []
  IsReadFor rules words TooLong text left = length text ≡ most_bytes + 1
  IsReadFor rules words ending text left = IsRead rules words text left

  -- It was written whole, and as much of the input was read.
  pub record IsAnswered (rules : Rules C H) (words : List (String Global)) (before after : Outside) (handed : H) (ending : Ending) : Type 0 where
    pub answers : Answers rules words before after handed ending
    pub read : IsReadFor rules words ending answers.text after.left

  -- The sink failed, and what it took is a part of what was due, from its front and not all of it.
  pub record IsCutOff (rules : Rules C H) (words : List (String Global)) (before after : Outside) (handed : H) : Type 0 where
    pub ending : Ending
    pub text : List ℕ
    pub due : List ℕ
    pub count : ℕ
    pub failed : HasRisen before.write_faults after.write_faults
    pub gave : Gave before.left text after.left
    pub is_due : IsDue rules words text handed ending due
    pub read : IsReadFor rules words ending text after.left
    pub short : count < length due
    pub took : Took before.taken (take count due) after.taken

  -- Nothing was written, for words of a command, and nothing is handed out.
  pub record IsSilent (rules : Rules C H) (words : List (String Global)) (before after : Outside) (handed : H) : Type 0 where
    pub command : (command : C) × rules.are_of command words
    pub took : Took before.taken [] after.taken
    pub nothing : handed ≡ rules.nothing

  abbrev pub Meets : Rules C H → List (String Global) → Outside → Outside → H → Ending → Type 0
  Meets rules words before after handed ReadFault = HasRisen before.read_faults after.read_faults × IsSilent rules words before after handed × AskToRead rules words
  Meets rules words before after handed WriteFault = IsCutOff rules words before after handed
  Meets rules words before after handed NoMemory = IsSilent rules words before after handed
  Meets rules words before after handed ending = IsAnswered rules words before after handed ending

  -- A call was served, where `never_fails` and `unchanged` are said of the source, and `never_fails_for` so many bytes of the sink
  pub record IsServed (rules : Rules C H) (words : List (String Global)) (before after : Outside) (never_fails unchanged : Type 0) (never_fails_for : ℕ → Type 0) (handed : H) (ending : Ending) : Type 0 where
    pub meets : Meets rules words before after handed ending
    pub reads_nothing : (AskToRead rules words → ⊥) → unchanged
    -- A good input is answered, unless the outside fails or memory runs out.
    pub complete : (command : C) (text : List ℕ) → rules.are_of command words → before.left ≡ Some text → rules.has_reading command text → length text ≤ most_bytes
        → ¬ HasRisen before.read_faults after.read_faults → ¬ HasRisen before.write_faults after.write_faults → (ending ≡ Done) ⊎ (ending ≡ NoMemory)
    -- So is a command that does not read, whatever the source has.
    pub unread : (command : C) → rules.are_of command words → (rules.reads command → ⊥) → ¬ HasRisen before.write_faults after.write_faults → (ending ≡ Done) ⊎ (ending ≡ NoMemory)
    -- No count rises where the source never fails and the sink does not for as many bytes as may be due.
    pub no_read_fault : never_fails → after.read_faults ≡ before.read_faults
    pub no_write_fault : (room : ℕ) → never_fails_for room
        → ((text due : List ℕ) (other : H) (ending : Ending) → Gave before.left text after.left → IsDue rules words text other ending due → length due ≤ room)
        → after.write_faults ≡ before.write_faults
