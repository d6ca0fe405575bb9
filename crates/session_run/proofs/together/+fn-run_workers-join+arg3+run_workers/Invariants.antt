use Rattle.std.proofs.Common.{◌+◌, length}
use Rattle.session_run.proofs.together.+fn-run_workers-join+arg3+run_workers.Given as goal

-- the other workers are fewer
abbrev pub decreases-join+arg3 : goal.decreases-join+arg3
decreases-join+arg3 g l = length l.front.now + length l.front.now + 1

abbrev pub decreases-run_workers : goal.decreases-run_workers
decreases-run_workers g l = length l.workers.now + length l.workers.now
