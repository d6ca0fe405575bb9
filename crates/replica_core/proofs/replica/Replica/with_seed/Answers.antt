use Rattle.replica_core.proofs.Keeping.{flags_empty}
use Rattle.replica_core.proofs.MarksSeen.{stand_empty}
use Rattle.replica_core.proofs.replica.Replica.with_seed.Goals as goal

pub invariant_of-result : goal.invariant_of-result
invariant_of-result c = record {
  graph = (flags_empty c.with_seed-graph.result c.in_ok-opening.opening c.with_seed-graph.ensures.empty c.in_ok-opening.ensures.flags).invariant;
  stand = stand_empty c.with_seed-graph.result c.in_ok-marks.marks c.with_seed-graph.ensures.empty c.in_ok-marks.ensures;
}

pub returns : goal.returns
returns c = record { empty = (flags_empty c.with_seed-graph.result c.in_ok-opening.opening c.with_seed-graph.ensures.empty c.in_ok-opening.ensures.flags).view }
