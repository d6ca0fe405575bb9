use Rattle.std.proofs.Common.{List}
use Rattle.std.proofs.lemmas.Result.{IfOk-weaker}
use Rattle.grove_terms.specs.declared.node.Node.{Node}
use Rattle.grove_terms.specs.Grove.{IsTreeOf}
use Rattle.grove_terms.specs.Sorted.{IsSortedTree}
use Rattle.grove_terms.proofs.WellSorted.{sorted_tree}
use Rattle.edit_table.specs.Lent.{lent_vertex}
use Rattle.graph_table.specs.Table.{live}
use Rattle.graph_table.proofs.Lives.{inserted_well_formed}
use Rattle.grove_decompose.proofs.trees.tree_by_number.Goals as goal

pub returns-clause-sorted : goal.returns-clause-sorted
returns-clause-sorted c =
    let edges = live c.args.table.now in
    let v = lent_vertex c.lent.result in
    IfOk-weaker c.tree_of.result (IsTreeOf edges v) IsSortedTree (λ (nodes : List Node). sorted_tree edges v nodes (inserted_well_formed c.args.table.now.edits)) c.tree_of.ensures.tree
