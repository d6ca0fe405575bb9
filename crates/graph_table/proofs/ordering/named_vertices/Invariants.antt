use Rattle.std.proofs.Common.{◌≡◌, take}
use Rattle.std.specs.List.{AllByRecursion}
use Rattle.graph_table.specs.Named.{numbers_of, IsNamed}
use Rattle.graph_table.proofs.ordering.named_vertices.Given as goal

abbrev pub invariant-loop-number : goal.invariant-loop-number
invariant-loop-number l = record {
  numbers : numbers_of l.list.items ≡ take l.number-index l.numbers;
  named : AllByRecursion (IsNamed l.table) l.list.items;
}
