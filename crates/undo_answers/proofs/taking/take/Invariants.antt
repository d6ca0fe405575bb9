use Rattle.undo_answers.proofs.taking.take.Given as goal

abbrev pub ghosts-take_counting : goal.ghosts-take_counting
ghosts-take_counting a = record { name = a.blank.name; parts = a.blank.parts }
