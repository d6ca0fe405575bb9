use Rattle.std.proofs.Common.{◌≡◌, ℕ, ap, ◌∙◌}
use Rattle.std.specs.Prelude.{Some, None}
use Rattle.graph_words.specs.Walk.{only_source}
use Rattle.live_graph.specs.Live.{live}
use Rattle.live_graph.proofs.Children.{no_parents}
use Rattle.live_graph.proofs.WalkLengths.{met_at_first}
use Rattle.live_graph.proofs.walk_up.leads_to.Goals as goal

none_is_some : {n : ℕ} → None ≡ Some n → ⊥
none_is_some h = absurd cc

pub returns-in-None : goal.returns-in-None
returns-in-None c =
    c.is_same_vertex.ensures
    ∙ met_at_first (live c.args.edges.now.entries) c.args.from.now c.args.vertex.now
    (ap only_source (no_parents c.args.edges.now c.args.from.now c.edge_count-edges.ensures.once c.edge_count-edges.ensures.ends (λ n is. none_is_some (c.in-None.ensures.only n is))))
