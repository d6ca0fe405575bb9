use Rattle.std.proofs.Common.{ℕ, subst}
use Rattle.std.proofs.lemmas.Result.{IfOk-weaker}
use Rattle.graph_table.specs.Table.{live}
use Rattle.grove_decompose.specs.Trees.{vertices_of}
use Rattle.grove_answers.proofs.Heads.{vertices_count}
use Rattle.grove_answers.proofs.Reported.{section_reported}
use Rattle.grove_answers.proofs.reporting.report_section_in_parts.Goals as goal

pub returns-clause-reported : goal.returns-clause-reported
returns-clause-reported g c =
    IfOk-weaker c.report_in_parts.result _ _
    (λ after reported. section_reported g.R.Report.begins g.R.Report.takes (live c.args.table.now) c.args.section (vertices_of c.args.table.now c.args.heads.now) c.args.before.report c.begin.new.self after.report
    (subst (λ (n : ℕ). g.R.Report.begins c.args.before.report c.args.section n c.begin.new.self) (vertices_count c.args.table.now c.args.heads.now) c.in_ok-begin.ensures) reported)
    c.report_in_parts.ensures.reported
