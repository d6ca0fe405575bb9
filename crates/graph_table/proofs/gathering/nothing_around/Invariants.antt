use Rattle.std.proofs.Common.{◌≡◌, replicate}
use Rattle.graph_table.specs.Around.{no_ends}
use Rattle.graph_table.proofs.gathering.nothing_around.Given as goal

abbrev pub invariant-loop : goal.invariant-loop
invariant-loop l = l.around.items ≡ replicate l.counter no_ends
