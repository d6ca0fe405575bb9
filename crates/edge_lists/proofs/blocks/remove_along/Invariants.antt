use Rattle.std.proofs.Common.{◌≡◌, ◌<◌, ◌-◌, length}
use Rattle.std.specs.List.{concat}
use Rattle.edge_lists.specs.Blocks.{block_len, HasGap}
use Rattle.edge_lists.proofs.blocks.remove_along.Given as goal

-- the block at the place lacks one number
abbrev pub invariant-loop-at : goal.invariant-loop-at
invariant-loop-at l = record {
  gap : HasGap block_len l.at l.blocks;
  there : l.at < length l.blocks;
  count : length l.blocks ≡ length l.initial.blocks;
  numbers : concat l.blocks ≡ concat l.initial.blocks;
}

abbrev pub decreases-loop-at : goal.decreases-loop-at
decreases-loop-at l = length l.blocks - l.at
