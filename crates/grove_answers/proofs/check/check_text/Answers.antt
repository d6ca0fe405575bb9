use Rattle.std.proofs.Common.{refl}
use Rattle.std.proofs.lemmas.Result.{IfOk-weaker}
use Rattle.grove_edits.specs.Graph.{graph}
use Rattle.grove_answers.proofs.Checked.{checked_text}
use Rattle.grove_answers.proofs.check.check_text.Goals as goal

pub returns : goal.returns
returns c =
    IfOk-weaker c.with_roots.result _ _
    (λ text written. checked_text (graph c.args.table.edits) (record { text = c.new.result; roots = 0; typed = 0 }) c.report_graph.new.report text.items c.new.ensures.items refl refl c.in_ok-report_graph.ensures written)
    c.with_roots.ensures
