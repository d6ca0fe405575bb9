use Rattle.std.proofs.Common.{List, subst}
use Rattle.std.specs.Prelude.{OnOk}
use Rattle.grove_edits.specs.declared.edit.Edit.{Edit}
use Rattle.grove_edits.specs.Graph.{graph}
use Rattle.grove_answers.specs.Reports.{IsReported}
use Rattle.grove_answers.proofs.reporting.report_graph.Goals as goal

pub returns : goal.returns
returns g c =
    subst (λ (edits : List Edit). OnOk c.report_program.result (IsReported g.R.Report.begins g.R.Report.takes (graph edits) c.args.report.now c.report_program.new.report))
    c.in_ok-program.ensures.edits c.report_program.ensures
