use Rattle.std.proofs.Common.{subst}
use Rattle.edge_numbers.specs.Numbered.{Numbered, edge_at, IsNumberOfVertex}
use Rattle.edge_numbers.proofs.Narrow.{target_read}
use Rattle.edge_numbers.proofs.edge_numbers.EdgeNumbers.target.Goals as goal

pub returns : goal.returns
returns c =
    subst (λ (ns : Numbered). IsNumberOfVertex ns (edge_at ns c.args.number).target c.narrow_at.result.now.target) c.self.view_is
    (target_read c.self.inside.vertices.keys c.self.inside.edges.entries c.args.number c.narrow_at.result.now c.narrow_at.ensures c.self.invariant.ends)
