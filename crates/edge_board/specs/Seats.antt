-- What contracts see of a board and of a seat.
use Rattle.std.specs.Prelude.{ℕ, ◌+◌, ◌-◌, List, [], ◌∷◌, ◌++◌, slice_set}
use Rattle.edge_lattice.specs.declared.state.State.{State}
use Rattle.edge_lattice.specs.declared.state.State.TheVariants.{Deleted}
use Rattle.atomic_table.specs.Seated.{TableId}
use Rattle.edge_board.specs.States.{joined_states}

-- Which board it is, and what it was made with: how many parts, and a state for each slot
pub record BoardOf : Type 0 where
  pub table : TableId
  pub parts : ℕ
  pub opening : List State

-- A seat. It has `seen` a state in each slot, and its `marks` are the slots that it raised, and those that the seats joined to it raised
pub record BoardStanding : Type 0 where
  pub board : BoardOf
  pub parts : ℕ
  pub seen : List State
  pub marks : List ℕ

-- the seat that is made with a board: it has every part
abbrev pub first_board_seat : BoardOf → BoardStanding
first_board_seat board = record { board = board; parts = board.parts; seen = board.opening; marks = [] }

-- the seat raised the slot
abbrev pub after_raise : BoardStanding → ℕ → BoardStanding
after_raise seat slot = record seat { seen = slice_set seat.seen slot Deleted; marks = seat.marks ++ slot ∷ [] }

-- the seat found this state in the slot
abbrev pub after_read : BoardStanding → ℕ → State → BoardStanding
after_read seat slot state = record seat { seen = slice_set seat.seen slot state }

-- what stays with a seat that hands over one part
abbrev pub kept_board_seat : BoardStanding → BoardStanding
kept_board_seat seat = record seat { parts = seat.parts - 1 }

-- the seat that it is handed to
abbrev pub given_board_seat : BoardStanding → BoardStanding
given_board_seat seat = record seat { parts = 1; marks = [] }

-- a seat with what another one had
abbrev pub joined_board_seat : BoardStanding → BoardStanding → BoardStanding
joined_board_seat seat other = record seat { parts = seat.parts + other.parts; seen = joined_states seat.seen other.seen; marks = seat.marks ++ other.marks }
