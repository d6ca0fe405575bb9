use Rattle.edge_numbers.specs.Numbered.{edges_of}
use Rattle.user_actions.proofs.SomeLists.{entries_have}
use Rattle.user_actions.proofs.FlaggedEdges.{in_order-flagged}
use Rattle.user_actions.proofs.live_view.LiveViewPlanView.known.Goals as goal

pub returns : goal.returns
returns c = record {
  in_order = in_order-flagged (edges_of c.args.self.now.graph.now) c.args.self.now.opening.now;
  finite = (edges_of c.args.self.now.graph.now, entries_have c.args.self.now.graph.now);
}
