use Rattle.std.proofs.Common.{◌≡◌, length, map}
use Rattle.std.specs.Option.{option_map}
use Rattle.edge_board.specs.Seats.{first_board_seat}
use Rattle.session_answers.proofs.OnBoards.{AreBoardsOf}
use Rattle.session_answers.proofs.boards.boards_of.Given as goal

abbrev pub invariant-loop-replica : goal.invariant-loop-replica
invariant-loop-replica l = (length l.boards.items ≡ l.replica) × (l.seats.items ≡ map (option_map first_board_seat) l.boards.items) × AreBoardsOf l.authors l.lines l.lists l.boards.items
