use Rattle.thread_tests.proofs.edge_board_tests.raise_and_watch.Given as goal

-- the board that was just made
abbrev pub ghosts-watch_as : goal.ghosts-watch_as
ghosts-watch_as g a = record { board = a.seat.board }
