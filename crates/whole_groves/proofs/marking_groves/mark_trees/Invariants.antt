use Rattle.std.proofs.Common.{drop}
use Rattle.type_core.specs.TypeTable.{KeepsTypes}
use Rattle.ctx_table.specs.CtxTable.{KeepsContexts}
use Rattle.whole_groves.specs.Marked.{AreMarkedListsOf}
use Rattle.grove_terms.specs.Sorted.{AreSortedTrees}
use Rattle.whole_groves.proofs.MarkedTrees.{AreSoFar}
use Rattle.whole_groves.proofs.marking_groves.mark_trees.Given as goal

abbrev pub invariant-loop-tree : goal.invariant-loop-tree
invariant-loop-tree l = record {
  marked : AreSoFar l.types l.tree-items (drop l.tree-index l.tree-items) l.marked;
  numbers : AreMarkedListsOf l.types l.marked;
  sorted : AreSortedTrees (drop l.tree-index l.tree-items);
  types : KeepsTypes l.fn.types l.types;
  contexts : KeepsContexts l.fn.ctxs l.ctxs;
}
