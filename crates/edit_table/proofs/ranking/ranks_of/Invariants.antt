use Rattle.std.proofs.Common.{◌≡◌, length}
use Rattle.edit_table.specs.Ranks.{HaveIndices}
use Rattle.edit_table.proofs.ranking.ranks_of.Given as goal

abbrev pub invariant-loop-rank : goal.invariant-loop-rank
invariant-loop-rank l = record { long : length l.ranks.items ≡ length l.sorted; so_far : HaveIndices l.sorted l.ranks.items l.rank }
