use Rattle.comparing_program.proofs.comparing.compare_rounds.Given as goal

abbrev pub ghosts-compare_round : goal.ghosts-compare_round
ghosts-compare_round a = record { name = a.blank.name; parts = a.blank.parts }
