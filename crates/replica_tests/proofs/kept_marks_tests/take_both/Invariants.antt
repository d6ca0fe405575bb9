use Rattle.replica_tests.proofs.kept_marks_tests.take_both.Given as goal

abbrev pub ghosts-take_counting : goal.ghosts-take_counting
ghosts-take_counting a = record { name = a.blank.name; parts = a.blank.parts }
