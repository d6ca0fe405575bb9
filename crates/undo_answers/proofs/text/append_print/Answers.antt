use Rattle.std.proofs.Common.{subst}
use Rattle.grove_edits.specs.Graph.{graph}
use Rattle.grove_answers.specs.Texts.{IsPrintText}
use Rattle.replica_core.specs.Content.{Content}
use Rattle.undo_answers.proofs.text.append_print.Goals as goal

pub returns : goal.returns
returns c =
    let printed = c.in_ok-print.ensures.appended in
    (printed.0, subst (λ (content : Content). IsPrintText (graph content.edits) printed.0) c.in_ok-take.ensures printed.1, printed.2)
