use Rattle.user_actions.specs.Flags.{opening_edges}
use Rattle.replica_core.proofs.Keeping.{list_seen}
use Rattle.replica_core.proofs.replica.Replica.is_listed.Goals as goal

pub returns : goal.returns
returns c = record {
  list = λ listed.
      list_seen c.self.inside.graph (opening_edges c.self.inside.graph c.self.inside.opening) c.args.self.now c.self.invariant.graph.kept c.self.view_is c.args.edits.now
      (c.in_ok-is_listed.ensures.canonical listed);
}
