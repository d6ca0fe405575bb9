use Rattle.std.proofs.Common.{◌≡◌, ◌+◌, drop, sum_by}
use Rattle.session_run.specs.Workers.{calls_of}
use Rattle.session_run.proofs.worker.all_calls.Given as goal

abbrev pub invariant-loop-worker : goal.invariant-loop-worker
invariant-loop-worker l = l.calls + sum_by calls_of (drop l.worker-index l.workers) ≡ sum_by calls_of l.workers
