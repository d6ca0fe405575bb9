use Rattle.std.proofs.Common.{ap, subst, ◌∙◌}
use Rattle.std.specs.List.{list_any}
use Rattle.graph_words.specs.States.{Entries, state_in}
use Rattle.live_graph.specs.ByName.{is_named_edge}
use Rattle.graph_words.specs.Named.{AreNamed}
use Rattle.live_graph.proofs.Names.{named_edges}
use Rattle.live_graph.proofs.live_graph.LiveGraph.edges_named.Goals as goal

pub returns : goal.returns
returns c = record {
  named =
      subst (λ (es : Entries). AreNamed (state_in es) c.args.name c.sort_edges.new.edges.items) c.self.view_is
      (named_edges c.self.inside.edges c.edge_count-edges.ensures.once c.self.inside.edge_names c.self.invariant.named c.args.name c.in_ok-found.found.items c.sort_edges.new.edges.items
      (λ e. c.in_ok-found.ensures e ∙ ap (list_any (is_named_edge c.self.inside.edges c.args.name e)) c.with_name-numbers.ensures)
      c.sort_edges.ensures.in_order c.sort_edges.ensures.same);
}
