use Rattle.std.proofs.Common.{sym, ap, ◌∙◌}
use Rattle.grove_edits.specs.declared.edge.Edge.{Edge}
use Rattle.edge_numbers.specs.Numbered.{Numbered, edge_at}
use Rattle.edge_numbers.proofs.Narrow.{edge_read}
use Rattle.edge_numbers.proofs.edge_numbers.EdgeNumbers.position.Goals as goal

pub returns : goal.returns
returns c =
    let read = edge_read c.self.inside.vertices.keys c.self.inside.edges.entries c.args.number c.narrow_at.result.now c.narrow_at.ensures in
    ap (λ (e : Edge). e.position) (sym read ∙ ap (λ (ns : Numbered). edge_at ns c.args.number) c.self.view_is)
