use Rattle.replica_core.proofs.Contents.{calls_canonical, same_calls}
use Rattle.replica_core.proofs.laws.replicas_converge.Goals as goal

pub returns-clause-canonical : goal.returns-clause-canonical
returns-clause-canonical c = calls_canonical

pub returns-clause-same : goal.returns-clause-same
returns-clause-same c = same_calls
