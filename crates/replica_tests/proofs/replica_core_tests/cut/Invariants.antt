use Rattle.replica_tests.proofs.replica_core_tests.cut.Given as goal

abbrev pub ghosts-cut_counting : goal.ghosts-cut_counting
ghosts-cut_counting a = record { name = a.blank.name; parts = a.blank.parts }
