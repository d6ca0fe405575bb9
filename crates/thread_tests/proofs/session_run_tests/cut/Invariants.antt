use Rattle.thread_tests.proofs.session_run_tests.cut.Given as goal

-- the board that was just made
abbrev pub ghosts-cut_as : goal.ghosts-cut_as
ghosts-cut_as g a = record { board = a.seat.board }
