use Rattle.std.proofs.Common.{◌≡◌, ◌++◌, length, map}
use Rattle.std.specs.List.{AllZip}
use Rattle.std.specs.Iterator.Adapters.{zip_first, zip_second}
use Rattle.std.specs.Vec.Iter.{into_iter_items, into_iter_len}
use Rattle.session_answers.specs.Boards.{IsWholeSeat, all_held, states_in}
use Rattle.session_answers.proofs.boards.close_all.Given as goal

-- the seats that are left are whole, and what the boards so far hold and what those that are left hold is what all hold
abbrev pub invariant-loop-board : goal.invariant-loop-board
invariant-loop-board l =
    let boards = zip_first l.board-iterator in
    let seats = zip_second l.board-iterator in
    AllZip IsWholeSeat (into_iter_items boards) (into_iter_items seats)
    × (map states_in l.held.items ++ all_held (into_iter_items boards) (into_iter_items seats) ≡ all_held l.fn.boards.items l.fn.seats.items)
    × (into_iter_len boards ≡ length (into_iter_items boards))
    × (into_iter_len seats ≡ length (into_iter_items seats))
