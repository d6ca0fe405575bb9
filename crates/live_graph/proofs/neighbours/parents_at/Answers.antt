use Rattle.std.proofs.Common.{◌≡◌, ℕ, Some, None, map, sym, ap, ◌∙◌}
use Rattle.graph_words.specs.Live.{parents_of}
use Rattle.edge_numbers.specs.Numbered.{edge_at}
use Rattle.live_graph.specs.Live.{live}
use Rattle.live_graph.proofs.Children.{no_parents}
use Rattle.live_graph.proofs.neighbours.parents_at.Goals as goal

none_is_some : {n : ℕ} → None ≡ Some n → ⊥
none_is_some h = absurd cc

pub returns-in-Some-clause-edges : goal.returns-in-Some-clause-edges
returns-in-Some-clause-edges c = c.parents_of_number.ensures.edges ∙ ap (λ v. parents_of v (live c.args.edges.now.entries)) c.in-Some.ensures.number.1

pub returns-in-None-clause-edges : goal.returns-in-None-clause-edges
returns-in-None-clause-edges c =
    ap (map (edge_at c.args.edges.now)) c.none.ensures
    ∙ sym (no_parents c.args.edges.now c.args.vertex.now c.edge_count-edges.ensures.once c.edge_count-edges.ensures.ends (λ n is. none_is_some (c.in-None.ensures.only n is)))
