use Rattle.edge_numbers.specs.Numbered.{vertex_at, IsVertexNumber}
use Rattle.live_graph.specs.Live.{live}
use Rattle.live_graph.proofs.WalkLengths.{HasNotMet}
use Rattle.live_graph.proofs.walk_up.leads_from.Given as goal

abbrev pub invariant-loop-step : goal.invariant-loop-step
invariant-loop-step l = record {
  number : IsVertexNumber l.edges l.at;
  unmet : HasNotMet (live l.edges.entries) (vertex_at l.edges l.from) l.vertex (vertex_at l.edges l.at) l._step;
}
