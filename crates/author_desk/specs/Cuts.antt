-- What contracts see of the cuts of an author: the opening edges, the board, and what its seat raised.
use Rattle.std.specs.Prelude.{◌≡◌, ℕ, ◌<◌, List, [], ◌∷◌, ◌++◌, length, Option, Some, None}
use Rattle.std.specs.List.{AllByRecursion}
use mathlib.Core.List.{IsPrefix}
use Rattle.edge_lattice.specs.declared.state.State.{State}
use Rattle.edge_lattice.specs.declared.state.State.TheVariants.{Deleted}
use Rattle.edge_board.specs.States.{state_at, AreAtMost}
use Rattle.grove_edits.specs.declared.action.Action.{Action}
use Rattle.grove_edits.specs.declared.edit.Edit.{Edit}
use Rattle.grove_edits.specs.Graph.{Ascends}
use Rattle.edge_board.specs.Seats.{BoardStanding, kept_board_seat, given_board_seat, joined_board_seat}
use Rattle.author_desk.specs.declared.cuts.Cuts.{Cuts}
use Rattle.author_desk.specs.declared.cuts.Cuts.TheVariants.{Empty, On}
use Rattle.author_desk.specs.Lines.{slots_cut}
use Rattle.author_desk.specs.Turns.{turns_of}

-- the edits whose edges are the opening ones
abbrev pub opening_edits : Cuts → List Edit
opening_edits Empty = []
opening_edits (On opening board seat) = opening.now

-- the seat at the board, where there is one
abbrev pub seat_of : Cuts → Option BoardStanding
seat_of Empty = None
seat_of (On opening board seat) = Some seat

-- the opening edges ascend, and each has a slot of the board, at which the seat is
abbrev pub CanRaise : Cuts → Type 0
CanRaise Empty = Unit {0}
CanRaise (On opening board seat) = Ascends opening.now × (length board.now.opening ≡ length opening.now) × (seat.board ≡ board.now)

-- the seat has parts for so many other seats beside itself
abbrev pub HasPartsFor : ℕ → Cuts → Type 0
HasPartsFor others Empty = Unit {0}
HasPartsFor others (On opening board seat) = others < seat.parts

-- one part of the seat was handed over to other cuts, on the same opening edges and the same board
abbrev pub HandsOver : Cuts → Cuts → Cuts → Type 0
HandsOver Empty after given = (after ≡ Empty) × (given ≡ Empty)
HandsOver (On opening board seat) after given = (after ≡ On opening board (kept_board_seat seat)) × (given ≡ On opening board (given_board_seat seat))

-- the other cuts have no seat, or one at the same board
abbrev pub CanTakeIn : Cuts → Cuts → Type 0
CanTakeIn cuts Empty = Unit {0}
CanTakeIn Empty (On opening board seat) = ⊥
CanTakeIn (On opening board seat) (On opening' board' seat') = (seat.board ≡ board.now) × (seat'.board ≡ board.now)

-- the seat was given what that of the other cuts had
abbrev pub TakesIn : Cuts → Cuts → Cuts → Type 0
TakesIn cuts Empty after = after ≡ cuts
TakesIn Empty (On opening board seat) after = ⊥
TakesIn (On opening board seat) (On opening' board' seat') after = after ≡ On opening board (joined_board_seat seat seat')

-- these slots were seen raised
abbrev pub AreSeenRaised : List State → List ℕ → Type 0
AreSeenRaised seen slots = AllByRecursion (λ slot. state_at seen slot ≡ Deleted) slots

-- the seat raised these slots, and nothing else; it is at its board and has its parts as before. It has seen these slots raised, and in no
-- slot less than before, so whatever it reads later is at least that
pub record SeatRaises (before after : BoardStanding) (slots : List ℕ) : Type 0 where
  pub board : after.board ≡ before.board
  pub parts : after.parts ≡ before.parts
  pub marks : after.marks ≡ before.marks ++ slots
  pub seen : AreAtMost before.seen after.seen
  pub seen_raised : AreSeenRaised after.seen slots

-- the same of the seat of some cuts, whose opening edges and board stay
abbrev pub Raises : Cuts → Cuts → List ℕ → Type 0
Raises Empty after slots = after ≡ Empty
Raises (On opening board seat) after slots = (seat' : BoardStanding) × (after ≡ On opening board seat') × SeatRaises seat seat' slots

-- the opening edges and the board stay, and the seat is at the board with its parts
abbrev pub KeepsSeat : Cuts → Cuts → Type 0
KeepsSeat Empty after = after ≡ Empty
KeepsSeat (On opening board seat) after = (seat' : BoardStanding) × (after ≡ On opening board seat') × (seat'.board ≡ seat.board) × (seat'.parts ≡ seat.parts)

-- the first turn of some lines has started, and its slots are raised
pub record StartsTurn (before after : Cuts) (lines turn behind : List Action) : Type 0 where
  pub split : turn ++ behind ≡ lines
  pub first : turns_of (opening_edits before) lines ≡ turn ∷ turns_of (opening_edits before) behind
  pub raised : Raises before after (slots_cut (opening_edits before) turn)

-- the slots of the first lines were raised, perhaps of all or of none
abbrev pub RaisesFirst : Cuts → Cuts → List Action → Type 0
RaisesFirst before after lines = (first : List Action) × IsPrefix first lines × Raises before after (slots_cut (opening_edits before) first)
