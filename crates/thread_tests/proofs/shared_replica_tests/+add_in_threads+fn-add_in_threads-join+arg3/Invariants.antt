use Rattle.std.proofs.Common.{◌+◌}
use Rattle.thread_tests.proofs.shared_replica_tests.+add_in_threads+fn-add_in_threads-join+arg3.Given as goal

-- the thread for the other workers has fewer of them
abbrev pub decreases-add_in_threads : goal.decreases-add_in_threads
decreases-add_in_threads g l = l.workers + l.workers + 1

abbrev pub decreases-join+arg3 : goal.decreases-join+arg3
decreases-join+arg3 g l = l.workers + l.workers
