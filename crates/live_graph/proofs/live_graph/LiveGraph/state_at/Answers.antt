use Rattle.std.proofs.Common.{◌≡◌, sym, ap, subst, ◌∙◌}
use Rattle.graph_words.specs.States.{Entries, state_in}
use Rattle.live_graph.specs.NumberOf.{IsNumberOf}
use Rattle.live_graph.proofs.Names.{state_there}
use Rattle.live_graph.proofs.live_graph.LiveGraph.state_at.Goals as goal

pub returns : goal.returns
returns c e =
    subst (λ (es : Entries). IsNumberOf es e c.args.number → c.state_at.result ≡ state_in es e) c.self.view_is
    (λ is. c.state_at.ensures ∙ sym (state_there c.self.inside.edges c.edge_count-edges.ensures.once c.args.number is.0) ∙ ap (state_in c.self.inside.edges.entries) is.1)
