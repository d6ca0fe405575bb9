use Rattle.std.proofs.Common.{ℕ, List, ◌++◌, sym, ap, subst, ◌∙◌}
use Rattle.grove_edits.specs.Graph.{graph}
use Rattle.infer_answers.specs.Texts.{IsInferText}
use Rattle.grove_tools.proofs.infer.infer_text.Goals as goal

pub returns : goal.returns
returns c =
    let told = c.in_ok-append_infer_text.ensures in
    subst (IsInferText (graph c.args.table.edits)) (sym (told.2 ∙ ap (λ (before : List ℕ). before ++ told.0) c.new-text.ensures.items)) told.1
