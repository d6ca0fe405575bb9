use Rattle.std.proofs.Common.{subst}
use Rattle.std.specs.List.{AllByRecursion}
use Rattle.edge_numbers.specs.Numbered.{Numbered, edges_of, HasEndsIn}
use Rattle.edge_numbers.proofs.Narrow.{all_ends_among}
use Rattle.edge_numbers.proofs.edge_numbers.EdgeNumbers.edge_count.Goals as goal

pub returns-clause-ends : goal.returns-clause-ends
returns-clause-ends c =
    subst (λ (ns : Numbered). AllByRecursion (HasEndsIn ns.vertices) (edges_of ns.entries)) c.self.view_is
    (all_ends_among c.self.inside.vertices.keys c.self.inside.edges.entries c.self.invariant.ends)
