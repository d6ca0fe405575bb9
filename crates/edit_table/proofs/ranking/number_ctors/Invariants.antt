use Rattle.std.proofs.Common.{◌≡◌, ◌++◌, drop, length}
use Rattle.edit_table.specs.Ranks.{numbered_from}
use Rattle.edit_table.proofs.ranking.number_ctors.Given as goal

abbrev pub invariant-loop-number : goal.invariant-loop-number
invariant-loop-number l = record {
  so_far : l.numbered.items ++ numbered_from l.number (drop l.number l.ctors) ≡ numbered_from 0 l.ctors;
  long : length l.numbered.items ≡ l.number;
}
