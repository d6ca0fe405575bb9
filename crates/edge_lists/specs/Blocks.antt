-- Inner model, which no public contract cites: numbers that stand in blocks, of which all but the last are full.
use Rattle.std.specs.Prelude.{◌≡◌, ℕ, zero, suc, ◌+◌, ◌<◌, ◌≤◌, min, List, [], ◌∷◌, length}
use Rattle.std.specs.List.{concat}
use Rattle.edge_lists.specs.Lists.{Listed}

-- how many numbers a block has memory for
abbrev pub block_len : ℕ
block_len = 4096

-- no block has more numbers than the most, and behind one that has fewer nothing stands
abbrev pub IsPacked : ℕ → List (List ℕ) → Type 0
IsPacked most [] = Unit {0}
IsPacked most (block ∷ blocks) = (length block ≤ most) × (length block < most → concat blocks ≡ []) × IsPacked most blocks

-- the block at an index has a place for one number more, and all is packed once it has one
abbrev pub HasGap : ℕ → ℕ → List (List ℕ) → Type 0
HasGap most at [] = Unit {0}
HasGap most zero (block ∷ blocks) = (suc (length block) ≤ most) × (suc (length block) < most → concat blocks ≡ []) × IsPacked most blocks
HasGap most (suc at) (block ∷ blocks) = (length block ≡ most) × HasGap most at blocks

-- the first numbers of a list and those behind them, which are none unless the first fill a block, with room for the places of the list
pub record AreParts (first : List ℕ) (room : ℕ) (later : Listed) (places count : ℕ) : Type 0 where
  pub most : length first ≤ block_len
  pub full : length first < block_len → later.numbers ≡ []
  pub counted : count ≡ length first + length later.numbers
  pub within : count ≤ places
  pub first_places : min places block_len ≤ room
  pub later_places : places ≤ block_len + later.places
