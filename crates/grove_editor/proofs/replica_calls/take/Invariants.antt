use Rattle.grove_editor.proofs.replica_calls.take.Given as goal

abbrev pub ghosts-take_counting : goal.ghosts-take_counting
ghosts-take_counting a = record { name = a.blank.name; parts = a.blank.parts }
