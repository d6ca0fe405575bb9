-- What a sink in memory shows, and what one of its writes takes.
use Rattle.std.specs.Prelude.{◌≡◌, ◌<◌, ℕ, ◌-◌, min, List, ◌++◌, length, take}

pub record SinkState : Type 0 where
  pub taken : List ℕ
  -- how many bytes it takes in all
  pub room : ℕ
  -- how many bytes a call takes at most
  pub piece : ℕ
  -- the numbers of the calls that fail, from 1
  pub failing : List ℕ
  -- how many calls were made
  pub calls : ℕ
  pub faults : ℕ

-- how many bytes it still takes
abbrev pub room_left : SinkState → ℕ
room_left sink = sink.room - length sink.taken

-- there is a byte to take, and no room for it
abbrev pub LacksRoom : SinkState → List ℕ → Type 0
LacksRoom sink bytes = (0 < length bytes) × (room_left sink ≡ 0)

-- a write took the front of the bytes, as many as the piece and the room left allow
pub record TakesFront (before after : SinkState) (bytes : List ℕ) (count : ℕ) : Type 0 where
  pub most : count ≡ min before.piece (min (length bytes) (room_left before))
  pub appended : after.taken ≡ before.taken ++ take count bytes
