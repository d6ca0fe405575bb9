use Rattle.mark_tests.proofs.mark_incremental_tests.told_once_applied.Given as goal

abbrev pub ghosts-all_counting : goal.ghosts-all_counting
ghosts-all_counting a = record { name = a.blank.name; parts = a.blank.parts }
