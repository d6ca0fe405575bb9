use Rattle.std.proofs.Common.{ℕ, List, subst, sym}
use Rattle.std.specs.List.{AllByRecursion}
use Rattle.std.proofs.lemmas.Result.{on_ok_weaker}
use Rattle.graph_table.specs.Table.{live}
use Rattle.graph_words.specs.declared.class.Class.TheVariants.{Cycle as CycleClass}
use Rattle.grove_terms.proofs.OneGrove.{vertices_of as vertices_of_edits, vertices_are}
use Rattle.grove_decompose.specs.Trees.{vertices_of}
use Rattle.grove_printer.specs.declared.section.Section.TheVariants.{NoParent, Multi, Cycle}
use Rattle.grove_answers.specs.Program.{IsHead}
use Rattle.grove_answers.specs.Reports.{AreReported, TakesSection}
use Rattle.grove_answers.proofs.Heads.{heads_of_class}
use Rattle.grove_answers.proofs.Reported.{whole_reported}
use Rattle.grove_answers.proofs.reporting.report_program.Goals as goal

pub report_section-requires-3-clause-heads : goal.report_section-requires-3-clause-heads
report_section-requires-3-clause-heads g c =
    let table = c.args.program.now.table in
    let vertices = vertices_of_edits table.edits in
    subst (AllByRecursion (IsHead table)) (sym c.deref-3.ensures.value)
    (heads_of_class CycleClass table vertices c.in_ok-cycles.cycles.items (λ e. cc) (c.in_ok-cycles.ensures.cycle vertices (vertices_are table.edits)) c.in_ok-cycles.ensures.numbers)

pub returns : goal.returns
returns g c =
    let begins = g.R.Report.begins in
    let takes = g.R.Report.takes in
    let program = c.args.program.now in
    let edges = live program.table in
    let x = c.report_section.new.report in
    let y = c.report_section-2.new.report in
    let new = c.report_section-3.new.report in
    let vertices = vertices_of_edits program.table.edits in
    let are = vertices_are program.table.edits in
    let none : AreReported (TakesSection begins takes NoParent) edges (vertices_of program.table program.heads.none.items) c.args.report.now x =
    subst (λ (ns : List ℕ). AreReported (TakesSection begins takes NoParent) edges (vertices_of program.table ns) c.args.report.now x) c.deref.ensures.value c.in_ok-report_section.ensures.reported in
    let multi : AreReported (TakesSection begins takes Multi) edges (vertices_of program.table program.heads.multi.items) x y =
    subst (λ (ns : List ℕ). AreReported (TakesSection begins takes Multi) edges (vertices_of program.table ns) x y) c.deref-2.ensures.value c.in_ok-report_section-2.ensures.reported in
    on_ok_weaker c.report_section-3.result
    (λ last. whole_reported begins takes program vertices c.in_ok-cycles.cycles.items c.args.report.now x y new c.requires are (c.in_ok-cycles.ensures.cycle vertices are) none multi
    (subst (λ (ns : List ℕ). AreReported (TakesSection begins takes Cycle) edges (vertices_of program.table ns) y new) c.deref-3.ensures.value last))
    c.report_section-3.ensures.reported
