-- No edge leads to the target, or one that comes from the position.
use Rattle.std.proofs.Common.{sym, ap, ◌∙◌}
use Rattle.grove_edits.specs.declared.edge.Edge.{Edge}
use Rattle.grove_edits.proofs.Vertices.{same_vertex_exact}
use Rattle.mark_incremental.proofs.ApartFrom.{no_parent, one_parent}
use Rattle.mark_incremental.proofs.Positions.{same_positions}
use Rattle.mark_incremental.proofs.conflict.is_from_position.Goals as goal

pub returns-in-Zero : goal.returns-in-Zero
returns-in-Zero c = λ edges is yes d held to. absurd (no_parent c.args.edge.now edges (sym c.in-Zero.is ∙ is) d held to)

pub returns-then-is_same_vertex : goal.returns-then-is_same_vertex
returns-then-is_same_vertex c = λ edges is yes d held to.
    let one = one_parent c.args.edge.now edges c.in-One.parent (sym c.in-One.is ∙ is) d held to in (
      ap (λ (x : Edge). x.source) one ∙ same_vertex_exact c.in-One.parent.source c.args.edge.now.source (sym c.is_same_vertex.ensures ∙ c.if-is_same_vertex.true),
      ap (λ (x : Edge). x.position) one ∙ same_positions c.in-One.parent.position c.args.edge.now.position (sym c.eq.ensures ∙ yes),
    )
