use Rattle.std.proofs.Common.{◌≡◌, ◌+◌, ◌*◌, ◌-◌, ◌<◌, ◌≤◌, length}
use Rattle.std.specs.Prelude.{insert}
use Rattle.std.specs.List.{concat}
use Rattle.edge_lists.specs.Blocks.{block_len, IsPacked}
use Rattle.edge_lists.proofs.blocks.insert_along.Given as goal

-- what is still to be put at the place makes what is wanted
abbrev pub invariant-loop-blocks : goal.invariant-loop-blocks
invariant-loop-blocks l = record {
  packed : IsPacked block_len l.blocks;
  count : length l.blocks ≡ length l.initial.blocks;
  size : length (concat l.blocks) ≡ length (concat l.initial.blocks);
  inside : l.place < block_len;
  within : l.at * block_len + l.place ≤ length (concat l.blocks);
  wanted : insert (concat l.blocks) (l.at * block_len + l.place) l.given ≡ insert (concat l.initial.blocks) (l.initial.at * block_len + l.initial.place) l.initial.given;
}

abbrev pub decreases-loop-blocks : goal.decreases-loop-blocks
decreases-loop-blocks l = length l.blocks - l.at
