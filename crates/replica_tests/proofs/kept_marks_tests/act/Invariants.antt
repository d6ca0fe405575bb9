use Rattle.replica_tests.proofs.kept_marks_tests.act.Given as goal

abbrev pub ghosts-act_counting : goal.ghosts-act_counting
ghosts-act_counting a = record { name = a.blank.name; parts = a.blank.parts }
