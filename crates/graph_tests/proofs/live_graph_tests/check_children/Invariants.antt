use Rattle.graph_tests.proofs.live_graph_tests.check_children.Given as goal

abbrev pub ghosts-check_root_children : goal.ghosts-check_root_children
ghosts-check_root_children g a = record { name = a.blank.name; parts = a.blank.parts }
