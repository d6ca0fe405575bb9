use Rattle.std.proofs.Common.{ℕ, List, sym, subst}
use Rattle.std.specs.Prelude.{IsTrue, IfOk, ◌↔◌}
use Rattle.grove_edits.specs.Graph.{graph}
use Rattle.grove_answers.specs.Texts.{IsPrintText}
use Rattle.session_answers.proofs.PrintTexts.{told_of_each}
use Rattle.session_answers.proofs.summarizing.prints_alike.Goals as goal

pub returns : goal.returns
returns c = λ text is_text.
    told_of_each c.args.first.now.edits c.deref.result.now text (λ (t : List ℕ). IfOk c.prints.result (λ alike. IsTrue alike ↔ IsPrintText (graph c.args.other.now.edits) t))
    (subst (λ (t : List ℕ). IsPrintText (graph c.args.first.now.edits) t) (sym c.deref.ensures.value) c.in_ok-text.ensures) is_text c.prints.ensures
