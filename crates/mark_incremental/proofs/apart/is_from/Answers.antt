-- No edge leads to the target, or one that comes from the source.
use Rattle.std.proofs.Common.{sym, ◌∙◌}
use Rattle.grove_edits.proofs.Vertices.{same_vertex_exact}
use Rattle.mark_incremental.proofs.ApartFrom.{zero_led, one_led}
use Rattle.mark_incremental.proofs.apart.is_from.Goals as goal

pub returns-in-Zero : goal.returns-in-Zero
returns-in-Zero c = λ e edges is from yes. zero_led e edges (sym c.in-Zero.is ∙ is)

pub returns-in-One : goal.returns-in-One
returns-in-One c = λ e edges is from yes.
    one_led e edges c.in-One.edge (sym c.in-One.is ∙ is) (same_vertex_exact c.in-One.edge.source c.args.source.now (sym c.is_same_vertex.ensures ∙ yes) ∙ from)
