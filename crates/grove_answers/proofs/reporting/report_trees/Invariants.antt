use Rattle.std.proofs.Common.{take, drop}
use Rattle.std.specs.List.{AllByRecursion}
use Rattle.graph_table.specs.Table.{live}
use Rattle.grove_decompose.specs.Trees.{OnlyInner, vertices_of}
use Rattle.grove_answers.specs.Program.{IsHead}
use Rattle.grove_answers.specs.Reports.{AreReported}
use Rattle.grove_answers.proofs.reporting.report_trees.Given as goal

abbrev pub invariant-loop-head : goal.invariant-loop-head
invariant-loop-head g l = record {
  reported : AreReported g.R.Report.takes (live l.table) (vertices_of l.table (take l.head-index l.heads)) l.initial.report l.report;
  heads : AllByRecursion (IsHead l.table) (drop l.head-index l.heads);
  seen : OnlyInner l.table l.walk.seen;
}
