use Rattle.replica_tests.proofs.replica_core_tests.text_once_sent.Given as goal

abbrev pub ghosts-sent_counting : goal.ghosts-sent_counting
ghosts-sent_counting a = record { name = a.blank.name; parts = a.blank.parts }
