-- For the words of a generated session one ending and one text are due, whatever the journals are.
use Rattle.std.specs.declared.alloc.Global.{Global}
use Rattle.std.proofs.Common.{◌≡◌, inl, inr, ℕ, List, refl, sym, subst, ◌∙◌}
use Rattle.std.specs.Prelude.{String}
use Rattle.replica_core.specs.Content.{Content}
use Rattle.session_report.specs.Taken.{Journals}
use Rattle.session_answers.proofs.OneSize.{one_summary_of_size}
use Rattle.grove_top.specs.declared.command.Command.{Command}
use Rattle.grove_top.specs.declared.command.Command.TheVariants.{Generate}
use Rattle.grove_calls.specs.declared.ending.Ending.{Ending}
use Rattle.grove_calls.specs.declared.ending.Ending.TheVariants.{Done, Usage, Malformed, TooLong, Unfit, ReadFault, WriteFault, NoMemory}
use Rattle.grove_calls.specs.Due.{IsDue, IsCommandDue}
use Rattle.grove_calls.proofs.OneDue.{Split, due_split}
use Rattle.grove_top.specs.Words.{AreOf}
use Rattle.grove_top.specs.Due.{IsSummarized, top_rules}
use Rattle.grove_top.proofs.OneDue.{one_command}

summarized_by : (text : List ℕ) (journals : Journals Content) (loads : ℕ) (status : Ending) (due : List ℕ) → IsCommandDue top_rules (Generate loads) text journals status due → (status ≡ Done) × IsSummarized loads journals due
summarized_by text journals loads Done due h = (refl, h.1)
summarized_by text journals loads Usage due h = absurd h
summarized_by text journals loads (Malformed line fault) due h = absurd h.2
summarized_by text journals loads TooLong due h = absurd h.3
summarized_by text journals loads Unfit due h = absurd h.2
summarized_by text journals loads ReadFault due h = absurd h
summarized_by text journals loads WriteFault due h = absurd h
summarized_by text journals loads NoMemory due h = absurd h

summarized_of : (words : List (String Global)) (text : List ℕ) (journals : Journals Content) (loads : ℕ) (status : Ending) (due : List ℕ) → AreOf (Generate loads) words → Split top_rules words text journals status due
    → (status ≡ Done) × IsSummarized loads journals due
summarized_of words text journals loads status due are (inl usage) = absurd (usage.1 (Generate loads) are)
summarized_of words text journals loads status due are (inr of) =
    summarized_by text journals loads status due (subst (λ (c : Command). IsCommandDue top_rules c text journals status due) (one_command words of.0 (Generate loads) of.1 are) of.2)

pub one_generated_due : (loads : ℕ) (words : List (String Global)) (s t : List ℕ) (journals others : Journals Content) (status other : Ending) (x y : List ℕ) → AreOf (Generate loads) words
    → IsDue top_rules words s journals status x → IsDue top_rules words t others other y → (status ≡ other) × (x ≡ y)
one_generated_due loads words s t journals others status other x y are a b =
    let of_a = summarized_of words s journals loads status x are (due_split top_rules words s journals x status a) in
    let of_b = summarized_of words t others loads other y are (due_split top_rules words t others y other b) in (
      of_a.0 ∙ sym of_b.0,
      one_summary_of_size loads of_a.1.session of_b.1.session journals others x y are.1.1 of_a.1.spelled of_b.1.spelled of_a.1.are_legal of_b.1.are_legal of_a.1.is_summary of_b.1.is_summary,
    )
