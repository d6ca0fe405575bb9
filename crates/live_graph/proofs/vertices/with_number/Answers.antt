use Rattle.std.proofs.Common.{sym, ap, ◌∙◌}
use Rattle.std.specs.Prelude.{◌&&◌, ◌||◌}
use Rattle.grove_edits.specs.Vertex.{is_same_vertex}
use Rattle.edge_numbers.specs.Numbered.{vertex_at}
use Rattle.live_graph.specs.Uses.{is_named_vertex}
use Rattle.live_graph.proofs.LeastTwo.{least_two_alike}
use Rattle.live_graph.proofs.vertices.with_number.Goals as goal

pub returns : goal.returns
returns c has found =
    let edges = c.args.edges.now in
    let n = c.args.number in
    least_two_alike (λ v. has v || is_same_vertex c.vertex.result.now v) (λ v. has v || is_named_vertex edges c.args.uses.now c.args.name v n)
    (λ v.
    ap (λ w. has v || is_same_vertex w v) c.vertex.ensures
    ∙ ap (λ b. has v || (b && is_same_vertex (vertex_at edges n) v)) (sym (sym c.is_vertex_named.ensures ∙ c.if-not-is_vertex_named.false)))
    c.with_vertex.result (c.with_vertex.ensures has found)
