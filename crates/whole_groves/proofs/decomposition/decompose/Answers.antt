use Rattle.std.proofs.Common.{ap, ◌∙◌}
use Rattle.grove_edits.specs.Graph.{graph}
use Rattle.graph_words.specs.declared.class.Class.TheVariants.{NoParent, Multi, Cycle}
use Rattle.graph_table.specs.Table.{live}
use Rattle.grove_terms.specs.Grove.{IsGrove}
use Rattle.grove_terms.proofs.OneGrove.{vertices_of as vertices_of_edits, vertices_are}
use Rattle.grove_terms.proofs.WellSorted.{groves_sorted}
use Rattle.grove_decompose.specs.Trees.{vertices_of}
use Rattle.grove_decompose.proofs.Going.{outer_of_class, trees_along}
use Rattle.whole_groves.proofs.decomposition.decompose.Goals as goal

pub trees_of-requires-clause-outer : goal.trees_of-requires-clause-outer
trees_of-requires-clause-outer c =
    let table = c.args.table.now in
    let vertices = vertices_of_edits table.edits in
    outer_of_class NoParent (live table) vertices _ (λ e. cc) (ap (vertices_of table) c.deref.ensures.value ∙ c.in_ok-heads.ensures.none vertices (vertices_are table.edits))

pub trees_of-requires-2-clause-outer : goal.trees_of-requires-2-clause-outer
trees_of-requires-2-clause-outer c =
    let table = c.args.table.now in
    let vertices = vertices_of_edits table.edits in
    outer_of_class Multi (live table) vertices _ (λ e. cc) (ap (vertices_of table) c.deref-2.ensures.value ∙ c.in_ok-heads.ensures.multi vertices (vertices_are table.edits))

pub trees_of-requires-3-clause-outer : goal.trees_of-requires-3-clause-outer
trees_of-requires-3-clause-outer c =
    let table = c.args.table.now in
    let vertices = vertices_of_edits table.edits in
    outer_of_class Cycle (live table) vertices _ (λ e. cc) (ap (vertices_of table) c.deref-3.ensures.value ∙ c.in_ok-cycles.ensures.cycle vertices (vertices_are table.edits))

pub returns : goal.returns
returns c =
    let table = c.args.table.now in
    let edges = live table in
    let vertices = vertices_of_edits table.edits in
    let are = vertices_are table.edits in
    let grove : IsGrove (graph table.edits) _ = record {
      live = edges;
      vertices = vertices;
      are_live = c.insertions_are_live.ensures;
      are_vertices = are;
      none = trees_along edges _ _ _ (ap (vertices_of table) c.deref.ensures.value ∙ c.in_ok-heads.ensures.none vertices are) c.in_ok-none.ensures.trees;
      multi = trees_along edges _ _ _ (ap (vertices_of table) c.deref-2.ensures.value ∙ c.in_ok-heads.ensures.multi vertices are) c.in_ok-multi.ensures.trees;
      cycle = trees_along edges _ _ _ (ap (vertices_of table) c.deref-3.ensures.value ∙ c.in_ok-cycles.ensures.cycle vertices are) c.in_ok-cycle.ensures.trees;
    } in
    record { grove = grove; sorted = groves_sorted table.edits _ grove }
