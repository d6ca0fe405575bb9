use Rattle.std.proofs.Common.{ℕ, List, subst, sym}
use Rattle.std.specs.List.{AllByRecursion}
use Rattle.graph_table.specs.Table.{live}
use Rattle.graph_words.specs.declared.class.Class.TheVariants.{Cycle as CycleClass}
use Rattle.grove_terms.proofs.OneGrove.{vertices_of as vertices_of_edits, vertices_are}
use Rattle.grove_decompose.specs.Trees.{vertices_of}
use Rattle.grove_printer.specs.declared.section.Section.TheVariants.{NoParent, Multi, Cycle}
use Rattle.grove_answers.specs.Program.{IsHead}
use Rattle.grove_answers.specs.Reports.{AreReported, TakesSection}
use Rattle.grove_answers.proofs.Heads.{heads_of_class}
use Rattle.grove_answers.proofs.Reported.{whole_reported}
use Rattle.grove_answers.proofs.reporting.report_program_in_parts.Goals as goal

pub report_section_in_parts-requires-3-clause-heads : goal.report_section_in_parts-requires-3-clause-heads
report_section_in_parts-requires-3-clause-heads g c κs within =
    let table = c.args.program.now.table in
    let vertices = vertices_of_edits table.edits in
    subst (AllByRecursion (IsHead table)) (sym c.deref-3.ensures.value)
    (heads_of_class CycleClass table vertices c.in_ok-cycles.cycles.items (λ e. cc) (c.in_ok-cycles.ensures.cycle vertices (vertices_are table.edits)) c.in_ok-cycles.ensures.numbers)

pub returns : goal.returns
returns g c =
    let begins = g.R.Report.begins in
    let takes = g.R.Report.takes in
    let program = c.args.program.now in
    let edges = live program.table in
    let x = c.in_ok-reporting.reporting.report in
    let y = c.in_ok-reporting-2.reporting.report in
    let new = c.in_ok-reporting-3.reporting.report in
    let vertices = vertices_of_edits program.table.edits in
    let are = vertices_are program.table.edits in
    let none : AreReported (TakesSection begins takes NoParent) edges (vertices_of program.table program.heads.none.items) c.args.report x =
    subst (λ (ns : List ℕ). AreReported (TakesSection begins takes NoParent) edges (vertices_of program.table ns) c.args.report x) c.deref.ensures.value c.in_ok-reporting.ensures.reported in
    let multi : AreReported (TakesSection begins takes Multi) edges (vertices_of program.table program.heads.multi.items) x y =
    subst (λ (ns : List ℕ). AreReported (TakesSection begins takes Multi) edges (vertices_of program.table ns) x y) c.deref-2.ensures.value c.in_ok-reporting-2.ensures.reported in
    let cycle : AreReported (TakesSection begins takes Cycle) edges (vertices_of program.table c.in_ok-cycles.cycles.items) y new =
    subst (λ (ns : List ℕ). AreReported (TakesSection begins takes Cycle) edges (vertices_of program.table ns) y new) c.deref-3.ensures.value c.in_ok-reporting-3.ensures.reported in
    whole_reported begins takes program vertices c.in_ok-cycles.cycles.items c.args.report x y new c.requires are (c.in_ok-cycles.ensures.cycle vertices are) none multi cycle
