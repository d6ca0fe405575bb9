use Rattle.std.proofs.Common.{take, drop}
use Rattle.std.specs.List.{AllByRecursion}
use Rattle.graph_table.specs.Table.{live}
use Rattle.grove_decompose.specs.Trees.{OnlyInner, vertices_of}
use Rattle.infer_answers.specs.Telling.{AreInferred, IsHead}
use Rattle.infer_answers.proofs.inferring.append_trees.Given as goal

abbrev pub invariant-loop-head : goal.invariant-loop-head
invariant-loop-head l = record {
  inferred : AreInferred (live l.table) (vertices_of l.table (take l.head-index l.heads)) l.initial.out.items l.out.items;
  heads : AllByRecursion (IsHead l.table) (drop l.head-index l.heads);
  seen : OnlyInner l.table l.seen;
}
