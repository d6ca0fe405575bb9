use Rattle.grove_edits.specs.Graph.{graph}
use Rattle.graph_words.specs.States.{state_in}
use Rattle.live_graph.specs.Live.{live}
use Rattle.user_actions.specs.Flags.{opening_edges}
use Rattle.kept_records.proofs.OneSize.{live_along}
use Rattle.replica_core.proofs.Keeping.{graph_seen}
use Rattle.replica_core.proofs.replica.Replica.graph.Goals as goal

pub returns-clause-states : goal.returns-clause-states
returns-clause-states c = graph_seen c.self.inside.graph (opening_edges c.self.inside.graph c.self.inside.opening) c.args.self.now c.self.invariant.graph.kept c.self.view_is

pub returns-clause-live : goal.returns-clause-live
returns-clause-live c =
    live_along (state_in c.self.inside.graph) (graph c.args.self.now.edits) (live c.self.inside.graph)
    (graph_seen c.self.inside.graph (opening_edges c.self.inside.graph c.self.inside.opening) c.args.self.now c.self.invariant.graph.kept c.self.view_is) c.edge_count-edges.ensures.live
