-- What contracts see of a turn and of a seat.
use Rattle.std.specs.Prelude.{ℕ, ◌+◌, ◌-◌, Bool, true, false, List, [], ◌∷◌, ◌++◌, length}
use Rattle.atomic_table.specs.Seated.{TableId}
use Rattle.turn_lock.specs.Places.{under_tags, places_from, longer}

-- Which turn it is, and what it was made with: how many calls and parts, and the plain data of its state
pub record TurnOf (F : Type 0) : Type 0 where
  pub table : TableId
  pub calls : ℕ
  pub parts : ℕ
  pub first : F

-- A seat. Its `put` are the places of the entries that its own turns added, and `joined` has the same of each seat that was joined to it, under that seat's tag
pub record TurnStanding (E F : Type 0) : Type 0 where
  pub turn : TurnOf F
  pub parts : ℕ
  pub calls : ℕ
  pub tag : ℕ
  pub seen : List E
  pub put : List ℕ
  pub joined : List (ℕ × List ℕ)
  pub begun : Bool

module _ {E F : Type 0} where
  -- the places that the seat and those joined to it put
  abbrev pub all_put : TurnStanding E F → List ℕ
  all_put seat = seat.put ++ under_tags seat.joined

  -- the seat that is made with a turn: it has every call and every part
  abbrev pub first_turn_seat : TurnOf F → TurnStanding E F
  first_turn_seat turn = record { turn = turn; parts = turn.parts; calls = turn.calls; tag = 0; seen = []; put = []; joined = []; begun = false }

  -- the seat has the turn, and has seen this list
  abbrev pub at_turn : TurnStanding E F → List E → TurnStanding E F
  at_turn seat list = record seat { seen = list; begun = true }

  -- The seat's turn is over, and it left this list. Each entry that it added took one of its calls
  abbrev pub after_turn : TurnStanding E F → List E → TurnStanding E F
  after_turn seat list =
      record seat { seen = list; put = seat.put ++ places_from (length seat.seen) (length list); calls = seat.calls - (length list - length seat.seen); begun = false }

  -- what stays with a seat that hands over so many calls, and one part
  abbrev pub kept_turn_seat : TurnStanding E F → ℕ → TurnStanding E F
  kept_turn_seat seat calls = record seat { parts = seat.parts - 1; calls = seat.calls - calls }

  -- the seat that they are handed to
  abbrev pub given_turn_seat : TurnStanding E F → ℕ → ℕ → TurnStanding E F
  given_turn_seat seat tag calls = record seat { parts = 1; calls = calls; tag = tag; put = []; joined = [] }

  -- a seat with what another one had
  abbrev pub joined_turn_seat : TurnStanding E F → TurnStanding E F → TurnStanding E F
  joined_turn_seat seat other =
      record seat { parts = seat.parts + other.parts; calls = seat.calls + other.calls; seen = longer seat.seen other.seen; joined = seat.joined ++ (other.joined ++ (other.tag, other.put) ∷ []) }
