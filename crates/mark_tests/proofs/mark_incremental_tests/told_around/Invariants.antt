use Rattle.mark_tests.proofs.mark_incremental_tests.told_around.Given as goal

abbrev pub ghosts-applied_counting : goal.ghosts-applied_counting
ghosts-applied_counting a = record { name = a.blank.name; parts = a.blank.parts }
