use Rattle.live_graph.specs.Live.{live}
use Rattle.user_actions.specs.Flags.{opening_edges}
use Rattle.replica_core.proofs.Showing.{shown}
use Rattle.replica_core.proofs.replica.Replica.view.Goals as goal

pub returns : goal.returns
returns c =
    shown c.self.inside.graph (live c.self.inside.graph) (live c.self.inside.graph) (opening_edges c.self.inside.graph c.self.inside.opening) c.args.self.now c.self.invariant.graph.kept c.self.view_is c.edge_count-edges.ensures.live c.edge_count-edges.ensures.live
