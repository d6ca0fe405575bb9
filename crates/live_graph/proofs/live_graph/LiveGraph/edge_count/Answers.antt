use Rattle.std.proofs.Common.{subst}
use Rattle.graph_words.specs.Whole.{AreLive}
use Rattle.graph_words.specs.States.{Entries, state_in}
use Rattle.live_graph.specs.Live.{live}
use Rattle.live_graph.proofs.Lives.{are_live}
use Rattle.live_graph.proofs.live_graph.LiveGraph.edge_count.Goals as goal

pub returns-clause-live : goal.returns-clause-live
returns-clause-live c = subst (λ (es : Entries). AreLive (state_in es) (live es)) c.self.view_is (are_live c.self.inside.edges.entries c.edge_count.ensures.once)
