use Rattle.std.proofs.Common.{◌≡◌, take}
use Rattle.graph_table.specs.Named.{numbers_of}
use Rattle.graph_table.proofs.ordering.numbers_of.Given as goal

abbrev pub invariant-loop-named : goal.invariant-loop-named
invariant-loop-named l = l.numbers.items ≡ numbers_of (take l.named-index l.list)
