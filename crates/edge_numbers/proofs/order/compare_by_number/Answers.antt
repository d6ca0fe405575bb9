use Rattle.std.proofs.Common.{get_or, sym, ap, ◌∙◌}
use Rattle.grove_edits.specs.Vertex.{vertex_cmp, root}
use Rattle.grove_edits.proofs.Vertices.{vertex_cmp_itself}
use Rattle.edge_numbers.proofs.order.compare_by_number.Goals as goal

pub returns-then-a-b : goal.returns-then-a-b
returns-then-a-b c =
    let first = get_or c.args.vertices.now c.args.a root in
    sym (ap (λ n. vertex_cmp first (get_or c.args.vertices.now n root)) (sym c.if-a-b.true) ∙ vertex_cmp_itself first)
