use Rattle.std.proofs.Common.{subst}
use Rattle.graph_words.specs.Whole.{AreVertices}
use Rattle.graph_words.specs.States.{Entries, state_in}
use Rattle.live_graph.proofs.Ends.{vertices_whole}
use Rattle.live_graph.proofs.live_graph.LiveGraph.vertices.Goals as goal

pub returns : goal.returns
returns c = record {
  vertices =
      subst (λ (es : Entries). AreVertices (state_in es) c.sort_vertices.new.vertices.items) c.self.view_is
      (vertices_whole c.self.inside.edges.entries c.in_ok-vertices.vertices.items c.sort_vertices.new.vertices.items c.edge_count-edges.ensures.once c.in_ok-vertices.ensures
      c.sort_vertices.ensures.in_order c.sort_vertices.ensures.same);
}
