-- Each way in which a call ends meets what its ending says.
use Rattle.std.specs.declared.alloc.Global.{Global}
use Rattle.std.proofs.Common.{◌≡◌, ◌⊎◌, inl, inr, ℕ, ◌+◌, ◌<◌, ◌≤◌, List, [], length, take, Option, Some, None, refl, sym, subst, arith, ◌++◌, ap, ◌∙◌, append-nil, length-append}
use Rattle.std.specs.Prelude.{String}
use Rattle.grove_io.specs.Outside.{HasRisen, Gave, Took, IsAtEnd}
use Rattle.grove_calls.specs.declared.fault.Fault.{Fault}
use Rattle.grove_calls.specs.declared.ending.Ending.{Ending}
use Rattle.grove_calls.specs.declared.ending.Ending.TheVariants.{Done, Usage, Malformed, TooLong, Unfit, ReadFault, WriteFault, NoMemory}
use Rattle.grove_calls.specs.Rules.{Rules, AreSound, AreOfNone, AskToRead}
use Rattle.grove_calls.specs.Due.{IsDue, IsCommandDue, most_bytes, too_long_text}
use Rattle.grove_calls.specs.Served.{Outside, Answers, IsAnswered, IsRead, IsReadFor, Wrote, Meets, IsServed}

pub gave_nothing : (left : Option (List ℕ)) → Gave left [] left
gave_nothing None = refl
gave_nothing (Some bytes) = refl

pub took_nothing : (taken : Option (List ℕ)) → Took taken [] taken
took_nothing None = refl
took_nothing (Some bytes) = ap Some (sym (append-nil bytes))

some_is : (x y : List ℕ) → Some x ≡ Some y → x ≡ y
some_is x y e = cc

-- a source that has told its bytes and is at its end has given them all
gave_all : (told text : List ℕ) (left : Option (List ℕ)) → Gave (Some told) text left → IsAtEnd left → told ≡ text
gave_all told text None gave at_end = absurd cc
gave_all told text (Some rest) gave at_end = some_is told (text ++ rest) gave ∙ ap (λ (r : List ℕ). text ++ r) at_end ∙ append-nil text

-- it has given no more than it told
gave_part : (told text : List ℕ) (left : Option (List ℕ)) → Gave (Some told) text left → length text ≤ length told
gave_part told text None gave = absurd cc
gave_part told text (Some rest) gave = omega (arith, ap length (some_is told (text ++ rest) gave), length-append text rest)

module _ {C H : Type 0} (rules : Rules C H) where
  pub command_due : (words : List (String Global)) (text : List ℕ) (handed : H) (due : List ℕ) (ending : Ending) (command : C) → rules.are_of command words → IsCommandDue rules command text handed ending due → IsDue rules words text handed ending due
  command_due words text handed due Done command are is_due = (command, are, is_due)
  command_due words text handed due Usage command are is_due = absurd is_due
  command_due words text handed due (Malformed line fault) command are is_due = (command, are, is_due)
  command_due words text handed due TooLong command are is_due = (command, are, is_due)
  command_due words text handed due Unfit command are is_due = (command, are, is_due)
  command_due words text handed due ReadFault command are is_due = absurd is_due
  command_due words text handed due WriteFault command are is_due = absurd is_due
  command_due words text handed due NoMemory command are is_due = absurd is_due

  wrote_meets : (words : List (String Global)) (before after : Outside) (handed : H) (ending result : Ending) (text due : List ℕ) → Gave before.left text after.left → IsDue rules words text handed ending due
      → IsReadFor rules words ending text after.left → (IsAnswered rules words before after handed ending → Meets rules words before after handed ending)
      → Wrote ending due before.taken after.taken before.write_faults after.write_faults result → Meets rules words before after handed result
  wrote_meets words before after handed ending result text due gave is_due read whole (inl wrote) =
      subst (Meets rules words before after handed) (sym wrote.0)
      (whole (record { answers = record { text = text; due = due; gave = gave; is_due = is_due; took = wrote.1 }; read = read }))
  wrote_meets words before after handed ending result text due gave is_due read whole (inr failed) =
      subst (Meets rules words before after handed) (sym failed.0)
      (record { ending = ending; text = text; due = due; count = failed.2.0; failed = failed.1; gave = gave; is_due = is_due; read = read; short = failed.2.1; took = failed.2.2 })

  pub usage_meets : (words : List (String Global)) (before after : Outside) (handed : H) (result : Ending) (due : List ℕ) → AreOfNone rules words → handed ≡ rules.nothing → due ≡ rules.usage → before.left ≡ after.left
      → Wrote Usage due before.taken after.taken before.write_faults after.write_faults result → Meets rules words before after handed result
  usage_meets words before after handed result due none nothing usage same wrote =
      wrote_meets words before after handed Usage result [] due (subst (Gave before.left []) same (gave_nothing before.left)) (none, nothing, usage) refl (λ whole. whole) wrote

  pub too_long_meets : (words : List (String Global)) (before after : Outside) (handed : H) (result : Ending) (text : List ℕ) (command : C) → rules.are_of command words → handed ≡ rules.nothing → rules.reads command
      → length text ≡ most_bytes + 1 → Gave before.left text after.left → Wrote TooLong too_long_text before.taken after.taken before.write_faults after.write_faults result → Meets rules words before after handed result
  too_long_meets words before after handed result text command are nothing reads long gave wrote =
      let more : most_bytes < length text = omega arith in
      wrote_meets words before after handed TooLong result text too_long_text gave (command, are, (nothing, more, refl, reads)) long (λ whole. whole) wrote

  written_meets : (words : List (String Global)) (before after : Outside) (text : List ℕ) (handed : H) (due : List ℕ) (ending result : Ending) (command : C) → rules.are_of command words → length text ≤ most_bytes
      → Gave before.left text after.left → ((rules.reads command × IsAtEnd after.left) ⊎ ((rules.reads command → ⊥) × (text ≡ []))) → IsCommandDue rules command text handed ending due
      → Wrote ending due before.taken after.taken before.write_faults after.write_faults result → Meets rules words before after handed result
  written_meets words before after text handed due Done result command are short gave read is_due wrote =
      wrote_meets words before after handed Done result text due gave (command, are, is_due) (record { command = command; are = are; read = read }) (λ whole. whole) wrote
  written_meets words before after text handed due (Malformed line fault) result command are short gave read is_due wrote =
      wrote_meets words before after handed (Malformed line fault) result text due gave (command, are, is_due) (record { command = command; are = are; read = read }) (λ whole. whole) wrote
  written_meets words before after text handed due Unfit result command are short gave read is_due wrote =
      wrote_meets words before after handed Unfit result text due gave (command, are, is_due) (record { command = command; are = are; read = read }) (λ whole. whole) wrote
  written_meets words before after text handed due TooLong result command are short gave read is_due wrote = let long = is_due.1 in absurd (omega arith)
  written_meets words before after text handed due Usage result command are short gave read is_due wrote = absurd is_due
  written_meets words before after text handed due ReadFault result command are short gave read is_due wrote = absurd is_due
  written_meets words before after text handed due WriteFault result command are short gave read is_due wrote = absurd is_due
  written_meets words before after text handed due NoMemory result command are short gave read is_due wrote = absurd is_due

  -- the answer of a command, or want of memory
  pub command_meets : (words : List (String Global)) (before after : Outside) (text : List ℕ) (handed : H) (result : Ending) (command : C) → rules.are_of command words → length text ≤ most_bytes
      → Gave before.left text after.left → ((rules.reads command × IsAtEnd after.left) ⊎ ((rules.reads command → ⊥) × (text ≡ [])))
      → ((result ≡ NoMemory) × (handed ≡ rules.nothing) × Took before.taken [] after.taken)
      ⊎ ((ending : Ending) × (due : List ℕ) × IsCommandDue rules command text handed ending due × Wrote ending due before.taken after.taken before.write_faults after.write_faults result)
      → Meets rules words before after handed result
  command_meets words before after text handed result command are short gave read (inl silent) =
      subst (Meets rules words before after handed) (sym silent.0) (record { command = (command, are); took = silent.2; nothing = silent.1 })
  command_meets words before after text handed result command are short gave read (inr due) =
      written_meets words before after text handed due.1 due.0 result command are short gave read due.2 due.3

  -- ---- a good input is answered

  fault_or_reading : AreSound rules → (command : C) (told text : List ℕ) (left : Option (List ℕ)) (line : ℕ) (fault : Fault) → rules.has_reading command told → Gave (Some told) text left
      → ((rules.reads command × IsAtEnd left) ⊎ ((rules.reads command → ⊥) × (text ≡ []))) → rules.is_first_fault command text line fault → ⊥
  fault_or_reading sound command told text left line fault reading gave (inl at_end) h =
      sound.no_fault command text line fault (subst (rules.has_reading command) (gave_all told text left gave at_end.1) reading) h
  fault_or_reading sound command told text left line fault reading gave (inr unread) h = sound.no_fault command text line fault (sound.unread command text unread.0) h

  unfit_or_reading : AreSound rules → (command : C) (told text : List ℕ) (left : Option (List ℕ)) → rules.has_reading command told → Gave (Some told) text left
      → ((rules.reads command × IsAtEnd left) ⊎ ((rules.reads command → ⊥) × (text ≡ []))) → rules.is_unfit command text → ⊥
  unfit_or_reading sound command told text left reading gave (inl at_end) h = sound.no_unfit command text (subst (rules.has_reading command) (gave_all told text left gave at_end.1) reading) h
  unfit_or_reading sound command told text left reading gave (inr unread) h = sound.no_unfit command text (sound.unread command text unread.0) h

  -- where the words are those of the command, what was read is what it reads
  read_by : AreSound rules → (words : List (String Global)) (text : List ℕ) (left : Option (List ℕ)) (command : C) → rules.are_of command words → IsRead rules words text left
      → (rules.reads command × IsAtEnd left) ⊎ ((rules.reads command → ⊥) × (text ≡ []))
  read_by sound words text left command are is =
      subst (λ (c : C). (rules.reads c × IsAtEnd left) ⊎ ((rules.reads c → ⊥) × (text ≡ []))) (sound.one_command words is.command command is.are are) is.read

  complete : AreSound rules → (words : List (String Global)) (before after : Outside) (handed : H) (ending : Ending) (command : C) (text : List ℕ)
      → Meets rules words before after handed ending → rules.are_of command words → before.left ≡ Some text → rules.has_reading command text → length text ≤ most_bytes
      → ¬ HasRisen before.read_faults after.read_faults → ¬ HasRisen before.write_faults after.write_faults → (ending ≡ Done) ⊎ (ending ≡ NoMemory)
  complete sound words before after handed Done command text meets are told reading short no_read no_write = inl refl
  complete sound words before after handed Usage command text meets are told reading short no_read no_write = absurd (meets.answers.is_due.0 command are)
  complete sound words before after handed (Malformed line fault) command text meets are told reading short no_read no_write =
      let answers = meets.answers in
      absurd (fault_or_reading sound command text answers.text after.left line fault reading (subst (λ left. Gave left answers.text after.left) told answers.gave)
      (read_by sound words answers.text after.left command are meets.read)
      (subst (λ (c : C). rules.is_first_fault c answers.text line fault) (sound.one_command words answers.is_due.0 command answers.is_due.1 are) answers.is_due.2.2))
  complete sound words before after handed Unfit command text meets are told reading short no_read no_write =
      let answers = meets.answers in
      absurd (unfit_or_reading sound command text answers.text after.left reading (subst (λ left. Gave left answers.text after.left) told answers.gave)
      (read_by sound words answers.text after.left command are meets.read)
      (subst (λ (c : C). rules.is_unfit c answers.text) (sound.one_command words answers.is_due.0 command answers.is_due.1 are) answers.is_due.2.2))
  complete sound words before after handed TooLong command text meets are told reading short no_read no_write =
      let answers = meets.answers in
      let few : length answers.text ≤ length text = gave_part text answers.text after.left (subst (λ left. Gave left answers.text after.left) told answers.gave) in
      let long = meets.read in
      absurd (omega arith)
  complete sound words before after handed ReadFault command text meets are told reading short no_read no_write = absurd (no_read meets.0)
  complete sound words before after handed WriteFault command text meets are told reading short no_read no_write = absurd (no_write meets.failed)
  complete sound words before after handed NoMemory command text meets are told reading short no_read no_write = inr refl

  -- so is a command that does not read
  unread : AreSound rules → (words : List (String Global)) (before after : Outside) (handed : H) (ending : Ending) (command : C) → Meets rules words before after handed ending → rules.are_of command words
      → (rules.reads command → ⊥) → ¬ HasRisen before.write_faults after.write_faults → (ending ≡ Done) ⊎ (ending ≡ NoMemory)
  unread sound words before after handed Done command meets are idle no_write = inl refl
  unread sound words before after handed Usage command meets are idle no_write = absurd (meets.answers.is_due.0 command are)
  unread sound words before after handed (Malformed line fault) command meets are idle no_write =
      let answers = meets.answers in
      absurd (sound.no_fault command answers.text line fault (sound.unread command answers.text idle)
      (subst (λ (c : C). rules.is_first_fault c answers.text line fault) (sound.one_command words answers.is_due.0 command answers.is_due.1 are) answers.is_due.2.2))
  unread sound words before after handed Unfit command meets are idle no_write =
      let answers = meets.answers in
      absurd (sound.no_unfit command answers.text (sound.unread command answers.text idle)
      (subst (λ (c : C). rules.is_unfit c answers.text) (sound.one_command words answers.is_due.0 command answers.is_due.1 are) answers.is_due.2.2))
  unread sound words before after handed TooLong command meets are idle no_write =
      let due = meets.answers.is_due in
      absurd (idle (subst rules.reads (sound.one_command words due.0 command due.1 are) due.2.3))
  unread sound words before after handed ReadFault command meets are idle no_write = absurd (idle (subst rules.reads (sound.one_command words meets.2.0 command meets.2.1 are) meets.2.2))
  unread sound words before after handed WriteFault command meets are idle no_write = absurd (no_write meets.failed)
  unread sound words before after handed NoMemory command meets are idle no_write = inr refl

  pub served : AreSound rules → (words : List (String Global)) (before after : Outside) (never_fails unchanged : Type 0) (never_fails_for : ℕ → Type 0) (handed : H) (ending : Ending)
      → Meets rules words before after handed ending → ((AskToRead rules words → ⊥) → unchanged) → (never_fails → after.read_faults ≡ before.read_faults)
      → ((room : ℕ) → never_fails_for room
      → ((text due : List ℕ) (other : H) (ending : Ending) → Gave before.left text after.left → IsDue rules words text other ending due → length due ≤ room)
      → after.write_faults ≡ before.write_faults)
      → IsServed rules words before after never_fails unchanged never_fails_for handed ending
  served sound words before after never_fails unchanged never_fails_for handed ending meets reads_nothing no_read_fault no_write_fault = record {
    meets = meets;
    reads_nothing = reads_nothing;
    complete = λ command text. complete sound words before after handed ending command text meets;
    unread = λ command. unread sound words before after handed ending command meets;
    no_read_fault = no_read_fault;
    no_write_fault = no_write_fault;
  }
