-- What the sources in memory show, and what one of their reads gives.
use Rattle.std.specs.Prelude.{◌≡◌, ℕ, min, List, ◌++◌, length, take, drop}

-- a source whose calls all succeed
pub record SureState : Type 0 where
  pub left : List ℕ
  -- how many bytes a call gives at most
  pub piece : ℕ

-- a source some of whose calls fail
pub record SourceState : Type 0 where
  pub left : List ℕ
  -- how many bytes a call gives at most
  pub piece : ℕ
  -- the numbers of the calls that fail, from 1
  pub failing : List ℕ
  -- how many calls were made
  pub calls : ℕ
  pub faults : ℕ

-- a read gave the next bytes, as many as the piece, the buffer and what was left allow, at the buffer's front
pub record GivesNext (piece : ℕ) (left rest buffer filled : List ℕ) (count : ℕ) : Type 0 where
  pub most : count ≡ min piece (min (length buffer) (length left))
  pub front : filled ≡ take count left ++ drop count buffer
  pub gone : rest ≡ drop count left
