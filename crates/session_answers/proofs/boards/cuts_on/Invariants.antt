use Rattle.std.proofs.Common.{◌≡◌, ◌++◌, length, map, take}
use Rattle.std.specs.Vec.Iter.{into_iter_items}
use Rattle.author_desk.specs.Cuts.{opening_edits, seat_of}
use Rattle.session_answers.specs.Boards.{all_cut_from, board_of}
use Rattle.session_answers.proofs.boards.cuts_on.Given as goal

abbrev pub invariant-loop-seat : goal.invariant-loop-seat
invariant-loop-seat l =
    (map opening_edits l.cuts.items ≡ take (length l.yielded) (all_cut_from l.lists l.boards)) × (map board_of l.cuts.items ≡ take (length l.yielded) l.boards) × (map seat_of l.cuts.items ≡ l.yielded)
    × (l.yielded ++ into_iter_items l.seat-iterator ≡ l.fn.seats.items)
