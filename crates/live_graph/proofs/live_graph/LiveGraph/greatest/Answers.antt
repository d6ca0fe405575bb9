use Rattle.std.proofs.Common.{sym, subst}
use Rattle.graph_words.specs.States.{Entries, state_in}
use Rattle.graph_words.specs.Names.{IsGreatest, IsNameOf}
use Rattle.live_graph.proofs.Maxima.{greatest_of_both}
use Rattle.live_graph.proofs.live_graph.LiveGraph.greatest.Goals as goal

pub returns : goal.returns
returns c =
    let entries = c.self.inside.edges.entries in
    subst (λ (es : Entries). IsGreatest (IsNameOf (state_in es)) c.args.author c.max.result) c.self.view_is
    (subst (IsGreatest (IsNameOf (state_in entries)) c.args.author) (sym c.max.ensures)
    (greatest_of_both entries c.args.author c.greatest_of_edges-of_edges.result c.greatest_of_vertices-of_vertices.result c.greatest_of_edges-of_edges.ensures c.greatest_of_vertices-of_vertices.ensures))
