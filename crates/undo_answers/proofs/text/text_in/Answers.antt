use Rattle.std.proofs.Common.{ℕ, List, ◌++◌, sym, ap, subst, ◌∙◌}
use Rattle.undo_answers.specs.UndoText.{IsTextOf}
use Rattle.undo_answers.proofs.text.text_in.Goals as goal

pub returns : goal.returns
returns c = λ of stands.
    let told = c.in_ok-append_text.ensures of stands in
    subst (IsTextOf of c.args.author) (sym (told.2 ∙ ap (λ (before : List ℕ). before ++ told.0) c.new-text.ensures.items)) told.1
