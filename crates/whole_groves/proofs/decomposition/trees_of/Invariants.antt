use Rattle.std.proofs.Common.{drop}
use Rattle.std.specs.List.{AllByRecursion}
use Rattle.graph_table.specs.Table.{live, IsNumber}
use Rattle.grove_decompose.specs.Trees.{OnlyInner, vertices_of}
use Rattle.whole_groves.proofs.SoFar.{AreSoFar}
use Rattle.whole_groves.proofs.decomposition.trees_of.Given as goal

abbrev pub invariant-loop-head : goal.invariant-loop-head
invariant-loop-head l = record {
  trees : AreSoFar (live l.table) (vertices_of l.table l.heads) (vertices_of l.table (drop l.head-index l.heads)) l.trees;
  numbers : AllByRecursion (IsNumber l.table) (drop l.head-index l.heads);
  seen : OnlyInner l.table l.seen;
}
