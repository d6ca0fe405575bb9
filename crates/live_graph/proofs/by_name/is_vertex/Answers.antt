use Rattle.std.proofs.Common.{ap, ◌∙◌}
use Rattle.grove_edits.specs.Vertex.{is_same_vertex}
use Rattle.grove_edits.proofs.Vertices.{eq_is_same_vertex}
use Rattle.live_graph.proofs.by_name.is_vertex.Goals as goal

pub returns : goal.returns
returns c = c.eq.ensures ∙ eq_is_same_vertex c.vertex.result.now c.args.vertex.now ∙ ap (λ v. is_same_vertex v c.args.vertex.now) c.vertex.ensures
