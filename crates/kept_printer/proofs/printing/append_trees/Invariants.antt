use Rattle.std.proofs.Common.{◌≡◌, take, drop}
use Rattle.std.specs.List.{AllByRecursion}
use Rattle.graph_table.specs.Table.{live}
use Rattle.grove_decompose.specs.Trees.{OnlyInner, vertices_of}
use Rattle.grove_printer.specs.Print.{Extends}
use Rattle.grove_answers.specs.Reports.{AreReported}
use Rattle.kept_printer.specs.Printed.{IsTreeHead, takes}
use Rattle.kept_printer.proofs.printing.append_trees.Given as goal

abbrev pub invariant-loop-head : goal.invariant-loop-head
invariant-loop-head l = record {
  printed : AreReported takes (live l.table) (vertices_of l.table (take l.head-index l.heads)) l.initial.out.items l.out.items;
  heads : AllByRecursion (IsTreeHead l.table) (drop l.head-index l.heads);
  seen : OnlyInner l.table l.seen;
  types : l.printer ≡ l.fn.printer;
  front : Extends l.initial.out.items l.out.items;
}
