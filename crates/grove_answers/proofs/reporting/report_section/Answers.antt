use Rattle.std.proofs.Common.{ℕ, subst}
use Rattle.std.proofs.lemmas.Result.{on_ok_weaker}
use Rattle.graph_table.specs.Table.{live}
use Rattle.grove_decompose.specs.Trees.{vertices_of}
use Rattle.grove_answers.proofs.Heads.{vertices_count}
use Rattle.grove_answers.proofs.Reported.{section_reported}
use Rattle.grove_answers.proofs.reporting.report_section.Goals as goal

pub returns-clause-reported : goal.returns-clause-reported
returns-clause-reported g c =
    on_ok_weaker c.report_trees.result
    (λ reported. section_reported g.R.Report.begins g.R.Report.takes (live c.args.table.now) c.args.section (vertices_of c.args.table.now c.args.heads.now) c.args.report.now c.begin.new.self c.report_trees.new.report
    (subst (λ (n : ℕ). g.R.Report.begins c.args.report.now c.args.section n c.begin.new.self) (vertices_count c.args.table.now c.args.heads.now) c.in_ok-begin.ensures) reported)
    c.report_trees.ensures.reported
