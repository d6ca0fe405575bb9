use Rattle.graph_tests.proofs.unicycle_roots_tests.roots_are_found.Given as goal

abbrev pub ghosts-find : goal.ghosts-find
ghosts-find g a = record { name = a.blank.name; parts = a.blank.parts }
