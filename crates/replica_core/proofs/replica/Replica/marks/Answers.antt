use Rattle.replica_core.proofs.MarksSeen.{stand_seen}
use Rattle.replica_core.proofs.replica.Replica.marks.Goals as goal

pub returns : goal.returns
returns c = stand_seen c.self.inside.graph c.self.inside.opening c.self.inside.marks c.args.self.now c.self.invariant c.self.view_is
