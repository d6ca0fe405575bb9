use Rattle.undo_answers.proofs.taking.act.Given as goal

abbrev pub ghosts-act_counting : goal.ghosts-act_counting
ghosts-act_counting a = record { name = a.blank.name; parts = a.blank.parts }
