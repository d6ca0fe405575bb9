-- The boards of a block: what each is made of, how cuts stand on it, and what it holds behind the block.
use Rattle.std.specs.Prelude.{◌≡◌, ◌⊎◌, ℕ, ◌+◌, ◌≤◌, Bool, true, false, List, [], ◌∷◌, length, map, slice_get, Option, Some, None}
use Rattle.std.specs.Global.{Vec}
use Rattle.std.specs.Option.{option_map}
use Rattle.edge_lattice.specs.declared.state.State.{State}
use Rattle.grove_edits.specs.declared.edit.Edit.{Edit}
use Rattle.grove_edits.specs.Edit.{edit_edge, edit_kind}
use Rattle.grove_edits.specs.Graph.{Graph, state_of}
use Rattle.edge_board.specs.States.{raised}
use Rattle.edge_board.specs.Seats.{BoardOf, BoardStanding}
use Rattle.author_desk.specs.declared.cuts.Cuts.{Cuts}
use Rattle.author_desk.specs.declared.cuts.Cuts.TheVariants.{Empty, On}
use Rattle.session_script.specs.declared.author.Declared.{Declared}
use Rattle.session_script.specs.declared.line.Line.{Line}
use Rattle.session_script.specs.declared.item.Block.{Block}
use Rattle.session_script.specs.declared.session.Session.{Session}
use Rattle.session_run.specs.Boards.{authors_at_work, slots_at}
use Rattle.session_answers.specs.Opened.{cuts_at}
use Rattle.session_answers.specs.Running.{stage_of}

-- the states that edits give their edges
abbrev pub states_of : List Edit → List State
states_of edits = map (λ edit. state_of (edit_kind edit)) edits

-- a part for each author of the replica who has a line, and one more
abbrev pub parts_at : List Declared → List Line → ℕ → ℕ
parts_at authors lines replica = authors_at_work authors lines replica + 1

-- where authors of a replica cut and some edits were listed of it, it has a board, which has so many parts and a slot for each of the edits.
-- Else it has none
abbrev pub IsBoardFor : Bool → List Edit → ℕ → Option BoardOf → Type 0
IsBoardFor cut opening parts None = (cut ≡ false) ⊎ (opening ≡ [])
IsBoardFor cut opening parts (Some board) = (cut ≡ true) × (1 ≤ length opening) × (board.opening ≡ states_of opening) × (board.parts ≡ parts)

-- these are the boards of a block, one of each replica, of which this was listed
pub record AreBoards (authors : List Declared) (lines : List Line) (lists : List (List Edit)) (boards : List (Option BoardOf)) : Type 0 where
  pub as_many : length boards ≡ length lists
  pub each : (replica : ℕ) (opening : List Edit) (board : Option BoardOf) → slice_get lists replica ≡ Some opening → slice_get boards replica ≡ Some board
      → IsBoardFor (cuts_at authors lines replica) opening (parts_at authors lines replica) board

-- what cuts are made on: what was listed, where there is a board for it
abbrev pub cut_from : List Edit → Option BoardOf → List Edit
cut_from opening None = []
cut_from opening (Some board) = opening

abbrev pub all_cut_from : List (List Edit) → List (Option BoardOf) → List (List Edit)
all_cut_from [] boards = []
all_cut_from (opening ∷ lists) [] = []
all_cut_from (opening ∷ lists) (board ∷ boards) = cut_from opening board ∷ all_cut_from lists boards

-- the board that cuts are made at, where there is one
abbrev pub board_of : Cuts → Option BoardOf
board_of Empty = None
board_of (On opening board seat) = Some board.now

-- a seat at the board with all its parts. Where there is no board, there is no seat
abbrev pub IsWholeSeat : Option BoardOf → Option BoardStanding → Type 0
IsWholeSeat None seat = seat ≡ None
IsWholeSeat (Some board) None = ⊥
IsWholeSeat (Some board) (Some seat) = (seat.board ≡ board) × (seat.parts ≡ board.parts)

-- what a board holds that was closed by a seat: the states that it opened with, with the marks of the seat raised
abbrev pub held_by : Option BoardOf → Option BoardStanding → Option (List State)
held_by None seat = None
held_by (Some board) None = None
held_by (Some board) (Some seat) = Some (raised board.opening seat.marks)

abbrev pub all_held : List (Option BoardOf) → List (Option BoardStanding) → List (Option (List State))
all_held [] seats = []
all_held (board ∷ boards) [] = []
all_held (board ∷ boards) (seat ∷ seats) = held_by board seat ∷ all_held boards seats

-- what the board of a replica that opened with some edits holds, where these slots were raised: the states of the edits, and Deleted in the
-- slots. Without a board no slot was raised
abbrev pub IsHeld : List Edit → List ℕ → Option (List State) → Type 0
IsHeld opening slots None = slots ≡ []
IsHeld opening slots (Some states) = states ≡ raised (states_of opening) slots

-- what the boards of a block hold behind it: in each the slots are raised that the replica's authors cut, and no others
pub record AreHeld (session : Session) (block : Block) (first_send : ℕ) (sources : List (List Edit)) (held : List (Option (List State))) : Type 0 where
  pub as_many : length held ≡ length sources
  pub each : (replica : ℕ) (opening : List Edit) (states : Option (List State)) → slice_get sources replica ≡ Some opening → slice_get held replica ≡ Some states
      → IsHeld opening (slots_at (stage_of session block first_send sources replica) opening) states

-- the states of boards, wherever they are kept
abbrev pub states_in : Option (Vec State) → Option (List State)
states_in held = option_map (λ states. states.items) held

-- what a graph has of the edges of some edits
abbrev pub states_had : Graph → List Edit → List State
states_had g edits = map (λ edit. g (edit_edge edit)) edits
