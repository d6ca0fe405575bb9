use Rattle.std.proofs.Common.{◌+◌, length}
use Rattle.session_run.proofs.block.+fn-run_replicas-join+arg3+run_replicas.Given as goal

-- the other replicas are fewer
abbrev pub decreases-join+arg3 : goal.decreases-join+arg3
decreases-join+arg3 g l = length l.machines.items + length l.machines.items + 1

abbrev pub decreases-run_replicas : goal.decreases-run_replicas
decreases-run_replicas g l = length l.machines.items + length l.machines.items
