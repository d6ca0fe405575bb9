use Rattle.replica_tests.proofs.replica_core_tests.opened.Given as goal

abbrev pub ghosts-opened_counting : goal.ghosts-opened_counting
ghosts-opened_counting a = record { name = a.blank.name; parts = a.blank.parts }
