use Rattle.std.proofs.Common.{◌∙◌}
use Rattle.grove_edits.proofs.Orders.{cmp_is_vertex_cmp}
use Rattle.grove_edits.proofs.vertex.compare_vertices.Goals as goal

pub returns : goal.returns
returns c = c.cmp.ensures ∙ cmp_is_vertex_cmp c.args.a.now c.args.b.now
