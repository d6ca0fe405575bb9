use Rattle.std.proofs.Common.{drop}
use Rattle.graph_words.specs.declared.class.Class.TheVariants.{NoParent, Multi}
use Rattle.grove_decompose.proofs.ByNumber.{AreHeadsSoFar}
use Rattle.grove_decompose.proofs.trees.unsorted_heads.Given as goal

abbrev pub invariant-loop-number : goal.invariant-loop-number
invariant-loop-number l = record {
  none : AreHeadsSoFar NoParent l.table l.table.vertices (drop l.number l.table.vertices) l.none.items;
  multi : AreHeadsSoFar Multi l.table l.table.vertices (drop l.number l.table.vertices) l.multi.items;
}
