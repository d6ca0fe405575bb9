use Rattle.std.proofs.Common.{ℕ, List, subst, sym}
use Rattle.std.specs.List.{AllByRecursion}
use Rattle.std.proofs.lemmas.Result.{on_ok_weaker}
use Rattle.graph_table.specs.Table.{live}
use Rattle.graph_words.specs.declared.class.Class.TheVariants.{NoParent, Multi, Cycle as CycleClass}
use Rattle.grove_terms.proofs.OneGrove.{vertices_of as vertices_of_edits, vertices_are}
use Rattle.grove_decompose.specs.Trees.{vertices_of}
use Rattle.infer_answers.specs.Telling.{AreInferred, IsHead}
use Rattle.infer_answers.proofs.Told.{heads_of_class, whole_told}
use Rattle.infer_answers.proofs.inferring.append_grove.Goals as goal

pub append_trees-requires-clause-heads : goal.append_trees-requires-clause-heads
append_trees-requires-clause-heads c =
    let table = c.args.table.now in
    let heads = c.requires.heads in
    subst (AllByRecursion (IsHead table)) (sym c.deref.ensures.value)
    (heads_of_class NoParent table (vertices_of_edits table.edits) c.args.heads.now.none.items (λ e. cc) (heads.none (vertices_of_edits table.edits) (vertices_are table.edits)) heads.none_numbers)

pub append_trees-requires-2-clause-heads : goal.append_trees-requires-2-clause-heads
append_trees-requires-2-clause-heads c =
    let table = c.args.table.now in
    let heads = c.requires.heads in
    subst (AllByRecursion (IsHead table)) (sym c.deref-2.ensures.value)
    (heads_of_class Multi table (vertices_of_edits table.edits) c.args.heads.now.multi.items (λ e. cc) (heads.multi (vertices_of_edits table.edits) (vertices_are table.edits)) heads.multi_numbers)

pub append_trees-requires-3-clause-heads : goal.append_trees-requires-3-clause-heads
append_trees-requires-3-clause-heads c =
    let table = c.args.table.now in
    subst (AllByRecursion (IsHead table)) (sym c.deref-3.ensures.value)
    (heads_of_class CycleClass table (vertices_of_edits table.edits) c.in_ok-cycles.cycles.items (λ e. cc)
    (c.in_ok-cycles.ensures.cycle (vertices_of_edits table.edits) (vertices_are table.edits)) c.in_ok-cycles.ensures.numbers)

pub returns : goal.returns
returns c =
    let table = c.args.table.now in
    let heads = c.args.heads.now in
    let edges = live table in
    let before = c.args.out.now.items in
    let x = c.append_trees.new.out.items in
    let y = c.append_trees-2.new.out.items in
    let new = c.append_trees-3.new.out.items in
    let vertices = vertices_of_edits table.edits in
    let are = vertices_are table.edits in
    let none : AreInferred edges (vertices_of table heads.none.items) before x =
    subst (λ (ns : List ℕ). AreInferred edges (vertices_of table ns) before x) c.deref.ensures.value c.in_ok-append_trees.ensures.inferred in
    let multi : AreInferred edges (vertices_of table heads.multi.items) x y =
    subst (λ (ns : List ℕ). AreInferred edges (vertices_of table ns) x y) c.deref-2.ensures.value c.in_ok-append_trees-2.ensures.inferred in
    on_ok_weaker c.append_trees-3.result
    (λ last. whole_told table heads vertices c.in_ok-cycles.cycles.items before x y new c.requires.live c.requires.heads are (c.in_ok-cycles.ensures.cycle vertices are) none multi
    (subst (λ (ns : List ℕ). AreInferred edges (vertices_of table ns) y new) c.deref-3.ensures.value last))
    c.append_trees-3.ensures.inferred
