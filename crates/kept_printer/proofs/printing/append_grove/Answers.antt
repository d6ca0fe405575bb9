use Rattle.std.proofs.Common.{ℕ, List, subst, sym}
use Rattle.std.specs.List.{AllByRecursion}
use Rattle.std.proofs.lemmas.Result.{on_ok_weaker}
use Rattle.graph_words.specs.declared.class.Class.TheVariants.{NoParent as NoParentClass, Multi as MultiClass, Cycle as CycleClass}
use Rattle.graph_table.specs.Table.{live}
use Rattle.grove_terms.proofs.OneGrove.{vertices_of as vertices_of_edits, vertices_are}
use Rattle.grove_decompose.specs.Trees.{vertices_of}
use Rattle.grove_printer.specs.declared.section.Section.TheVariants.{NoParent, Multi, Cycle}
use Rattle.grove_printer.proofs.Extending.{extends_further, extends_on_error}
use Rattle.grove_answers.specs.Reports.{AreReported, TakesSection}
use Rattle.kept_printer.specs.Printed.{IsTreeHead, begins, takes}
use Rattle.kept_printer.proofs.Heads.{tree_heads, grove_printed, section_extends}
use Rattle.kept_printer.proofs.printing.append_grove.Goals as goal

pub append_section-requires-clause-heads : goal.append_section-requires-clause-heads
append_section-requires-clause-heads c =
    let table = c.args.table.now in
    let vertices = vertices_of_edits table.edits in
    subst (AllByRecursion (IsTreeHead table)) (sym c.deref.ensures.value)
    (tree_heads NoParentClass table vertices c.in_ok-heads.heads.none.items (λ e. cc) (vertices_are table.edits) (c.in_ok-heads.ensures.none vertices (vertices_are table.edits)) c.in_ok-heads.ensures.none_numbers)

pub append_section-requires-2-clause-heads : goal.append_section-requires-2-clause-heads
append_section-requires-2-clause-heads c =
    let table = c.args.table.now in
    let vertices = vertices_of_edits table.edits in
    subst (AllByRecursion (IsTreeHead table)) (sym c.deref-2.ensures.value)
    (tree_heads MultiClass table vertices c.in_ok-heads.heads.multi.items (λ e. cc) (vertices_are table.edits) (c.in_ok-heads.ensures.multi vertices (vertices_are table.edits)) c.in_ok-heads.ensures.multi_numbers)

pub append_section-requires-3-clause-heads : goal.append_section-requires-3-clause-heads
append_section-requires-3-clause-heads c =
    let table = c.args.table.now in
    let vertices = vertices_of_edits table.edits in
    subst (AllByRecursion (IsTreeHead table)) (sym c.deref-3.ensures.value)
    (tree_heads CycleClass table vertices c.in_ok-cycles.cycles.items (λ e. cc) (vertices_are table.edits) (c.in_ok-cycles.ensures.cycle vertices (vertices_are table.edits)) c.in_ok-cycles.ensures.numbers)

pub returns-clause-printed : goal.returns-clause-printed
returns-clause-printed c =
    let table = c.args.table.now in
    let edges = live table in
    let heads = c.in_ok-heads.heads in
    let x = c.append_section.new.out.items in
    let y = c.append_section-2.new.out.items in
    let new = c.append_section-3.new.out.items in
    let vertices = vertices_of_edits table.edits in
    let are = vertices_are table.edits in
    let none : AreReported (TakesSection begins takes NoParent) edges (vertices_of table heads.none.items) c.args.out.now.items x =
    subst (λ (ns : List ℕ). AreReported (TakesSection begins takes NoParent) edges (vertices_of table ns) c.args.out.now.items x) c.deref.ensures.value c.in_ok-append_section.ensures.printed in
    let multi : AreReported (TakesSection begins takes Multi) edges (vertices_of table heads.multi.items) x y =
    subst (λ (ns : List ℕ). AreReported (TakesSection begins takes Multi) edges (vertices_of table ns) x y) c.deref-2.ensures.value c.in_ok-append_section-2.ensures.printed in
    on_ok_weaker c.append_section-3.result
    (λ last. grove_printed table vertices heads.none.items heads.multi.items c.in_ok-cycles.cycles.items c.args.out.now.items x y new c.requires.whole are
    (c.in_ok-heads.ensures.none vertices are) (c.in_ok-heads.ensures.multi vertices are) (c.in_ok-cycles.ensures.cycle vertices are) none multi
    (subst (λ (ns : List ℕ). AreReported (TakesSection begins takes Cycle) edges (vertices_of table ns) y new) c.deref-3.ensures.value last))
    c.append_section-3.ensures.printed

pub returns-clause-in_part : goal.returns-clause-in_part
returns-clause-in_part c =
    let table = c.args.table.now in
    let x = c.append_section.new.out.items in
    let y = c.append_section-2.new.out.items in
    extends_on_error c.append_section-3.result c.args.out.now.items y _
    (extends_further c.args.out.now.items x y
    (section_extends NoParent (live table) (vertices_of table c.deref.result.now) c.args.out.now.items x c.in_ok-append_section.ensures.printed)
    (section_extends Multi (live table) (vertices_of table c.deref-2.result.now) x y c.in_ok-append_section-2.ensures.printed))
    c.append_section-3.ensures.in_part
