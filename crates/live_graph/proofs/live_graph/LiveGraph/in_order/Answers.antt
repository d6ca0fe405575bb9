use Rattle.std.proofs.Common.{subst}
use Rattle.grove_edits.specs.Graph.{graph, IsCanonical}
use Rattle.graph_words.specs.States.{Entries, state_in, well_formed}
use Rattle.live_graph.proofs.Listing.{canonical_of}
use Rattle.live_graph.proofs.live_graph.LiveGraph.in_order.Goals as goal

pub returns : goal.returns
returns c = record {
  canonical =
      subst (λ (es : Entries). IsCanonical (well_formed (state_in es)) c.into_canonical.result) c.self.view_is
      (canonical_of (graph c.in_ok-edits.edits) (well_formed (state_in c.self.inside.edges.entries)) c.into_canonical.result c.in_ok-edits.ensures c.into_canonical.ensures.canonical);
}
