-- A call that is served by rules where a fact is known is served by the rules, if the fact holds.
use Rattle.std.specs.declared.alloc.Global.{Global}
use Rattle.std.proofs.Common.{ℕ, List, Option, Some, None}
use Rattle.std.specs.Prelude.{String}
use Rattle.grove_calls.specs.declared.ending.Ending.{Ending}
use Rattle.grove_calls.specs.declared.ending.Ending.TheVariants.{Done, Usage, Malformed, TooLong, Unfit, ReadFault, WriteFault, NoMemory}
use Rattle.grove_calls.specs.Rules.{Rules, AreSound, AreFor}
use Rattle.grove_calls.specs.Due.{IsDue}
use Rattle.grove_calls.specs.Served.{Outside, Answers, IsRead, IsReadFor, IsAnswered, IsCutOff, IsSilent, Meets, IsServed}
use Rattle.grove_top.specs.Known.{where_known}

module _ {C H : Type 0} (rules : Rules C H) (fact : Type 0) where
  abbrev more : Rules C H
  more = where_known rules fact

  pub sound_where_known : AreSound rules → AreSound more
  sound_where_known s = record {
    one_command = λ words command other a b. s.one_command words command other a.0 b.0;
    no_fault = s.no_fault;
    no_unfit = s.no_unfit;
    unread = s.unread;
  }

module _ {C H : Type 0} (rules : Rules C H) (fact : Type 0) (known : fact) where
  due_without : (words : List (String Global)) (text : List ℕ) (handed : H) (ending : Ending) (due : List ℕ) → IsDue (more rules fact) words text handed ending due → IsDue rules words text handed ending due
  due_without words text handed Done due h = (h.0, h.1.0, h.2)
  due_without words text handed Usage due h = ((λ command are. h.0 command (are, known)), h.1, h.2)
  due_without words text handed (Malformed line fault) due h = (h.0, h.1.0, h.2)
  due_without words text handed TooLong due h = (h.0, h.1.0, h.2)
  due_without words text handed Unfit due h = (h.0, h.1.0, h.2)
  due_without words text handed ReadFault due h = absurd h.2
  due_without words text handed WriteFault due h = absurd h.2
  due_without words text handed NoMemory due h = absurd h.2

  is_read_without : (words : List (String Global)) (text : List ℕ) (left : Option (List ℕ)) → IsRead (more rules fact) words text left → IsRead rules words text left
  is_read_without words text left h = record { command = h.command; are = h.are.0; read = h.read }

  read_without : (words : List (String Global)) (ending : Ending) (text : List ℕ) (left : Option (List ℕ)) → IsReadFor (more rules fact) words ending text left → IsReadFor rules words ending text left
  read_without words Done text left h = is_read_without words text left h
  read_without words Usage text left h = h
  read_without words (Malformed line fault) text left h = is_read_without words text left h
  read_without words TooLong text left h = h
  read_without words Unfit text left h = is_read_without words text left h
  read_without words ReadFault text left h = is_read_without words text left h
  read_without words WriteFault text left h = is_read_without words text left h
  read_without words NoMemory text left h = is_read_without words text left h

  answers_without : (words : List (String Global)) (before after : Outside) (handed : H) (ending : Ending) → Answers (more rules fact) words before after handed ending → Answers rules words before after handed ending
  answers_without words before after handed ending h = record {
    text = h.text;
    due = h.due;
    gave = h.gave;
    is_due = due_without words h.text handed ending h.due h.is_due;
    took = h.took;
  }

  answered_without : (words : List (String Global)) (before after : Outside) (handed : H) (ending : Ending) → IsAnswered (more rules fact) words before after handed ending → IsAnswered rules words before after handed ending
  unfolding answers_without
  answered_without words before after handed ending h = record {
    answers = answers_without words before after handed ending h.answers;
    read = read_without words ending h.answers.text after.left h.read;
  }

  cut_off_without : (words : List (String Global)) (before after : Outside) (handed : H) → IsCutOff (more rules fact) words before after handed → IsCutOff rules words before after handed
  cut_off_without words before after handed h = record {
    ending = h.ending;
    text = h.text;
    due = h.due;
    count = h.count;
    failed = h.failed;
    gave = h.gave;
    is_due = due_without words h.text handed h.ending h.due h.is_due;
    read = read_without words h.ending h.text after.left h.read;
    short = h.short;
    took = h.took;
  }

  silent_without : (words : List (String Global)) (before after : Outside) (handed : H) → IsSilent (more rules fact) words before after handed → IsSilent rules words before after handed
  silent_without words before after handed h = record { command = (h.command.0, h.command.1.0); took = h.took; nothing = h.nothing }

  meets_without : (words : List (String Global)) (before after : Outside) (handed : H) (ending : Ending) → Meets (more rules fact) words before after handed ending → Meets rules words before after handed ending
  meets_without words before after handed Done h = answered_without words before after handed Done h
  meets_without words before after handed Usage h = answered_without words before after handed Usage h
  meets_without words before after handed (Malformed line fault) h = answered_without words before after handed (Malformed line fault) h
  meets_without words before after handed TooLong h = answered_without words before after handed TooLong h
  meets_without words before after handed Unfit h = answered_without words before after handed Unfit h
  meets_without words before after handed ReadFault h = (h.0, silent_without words before after handed h.1, (h.2.0, h.2.1.0, h.2.2))
  meets_without words before after handed WriteFault h = cut_off_without words before after handed h
  meets_without words before after handed NoMemory h = silent_without words before after handed h

  served_without : (words : List (String Global)) (before after : Outside) (never_fails unchanged : Type 0) (never_fails_for : ℕ → Type 0) (handed : H) (ending : Ending)
      → IsServed (where_known rules fact) words before after never_fails unchanged never_fails_for handed ending → IsServed rules words before after never_fails unchanged never_fails_for handed ending
  served_without words before after never_fails unchanged never_fails_for handed ending h = record {
    meets = meets_without words before after handed ending h.meets;
    reads_nothing = λ idle. h.reads_nothing (λ asks. idle (asks.0, asks.1.0, asks.2));
    complete = λ command text are. h.complete command text (are, known);
    unread = λ command are. h.unread command (are, known);
    no_read_fault = h.no_read_fault;
    no_write_fault = λ room sure enough. h.no_write_fault room sure (λ text due other ending gave is. enough text due other ending gave (due_without words text other ending due is));
  }

module _ {C H : Type 0} where
  pub served_where_known : (rules : Rules C H) (fact : Type 0) (words : List (String Global)) (before after : Outside) (never_fails unchanged : Type 0) (never_fails_for : ℕ → Type 0) (handed : H) (ending : Ending)
      → IsServed (where_known rules fact) words before after never_fails unchanged never_fails_for handed ending → fact → IsServed rules words before after never_fails unchanged never_fails_for handed ending
  served_where_known rules fact words before after never_fails unchanged never_fails_for handed ending h known =
      served_without rules fact known words before after never_fails unchanged never_fails_for handed ending h

module _ {F C H : Type 0} where
  pub for_where_known : (rules : Rules C H) (fact : Type 0) (command : F → C) (form : Option F) (words : List (String Global)) → AreFor rules command form words → fact → AreFor (where_known rules fact) command form words
  for_where_known rules fact command None words are known = λ its of. are its of.0
  for_where_known rules fact command (Some form) words are known = (are, known)
