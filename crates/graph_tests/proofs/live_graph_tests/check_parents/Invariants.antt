use Rattle.graph_tests.proofs.live_graph_tests.check_parents.Given as goal

abbrev pub ghosts-check_seven : goal.ghosts-check_seven
ghosts-check_seven g a = record { name = a.blank.name; parts = a.blank.parts }
