use Rattle.std.proofs.Common.{subst}
use Rattle.edge_numbers.specs.Numbered.{Numbered, edge_at, IsNumberOfVertex}
use Rattle.edge_numbers.proofs.Narrow.{source_read}
use Rattle.edge_numbers.proofs.edge_numbers.EdgeNumbers.source.Goals as goal

pub returns : goal.returns
returns c =
    subst (λ (ns : Numbered). IsNumberOfVertex ns (edge_at ns c.args.number).source c.narrow_at.result.now.source) c.self.view_is
    (source_read c.self.inside.vertices.keys c.self.inside.edges.entries c.args.number c.narrow_at.result.now c.narrow_at.ensures c.self.invariant.ends)
