use Rattle.replica_tests.proofs.kept_marks_tests.changed.Given as goal

abbrev pub ghosts-changed_counting : goal.ghosts-changed_counting
ghosts-changed_counting a = record { name = a.blank.name; parts = a.blank.parts }
