use Rattle.thread_tests.proofs.session_run_tests.session_of.Goals as goal

pub returns-clause-session : goal.returns-clause-session
returns-clause-session c = c.in-Ok.ensures.spelled.is_session
