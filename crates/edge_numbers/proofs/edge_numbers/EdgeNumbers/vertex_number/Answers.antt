use Rattle.std.proofs.Common.{◌≡◌, ℕ, Some, subst}
use Rattle.std.specs.Prelude.{IfSome}
use Rattle.edge_numbers.specs.Numbered.{Numbered, IsNumberOfVertex}
use Rattle.edge_numbers.proofs.Vertices.{vertex_numbers, vertex_stands}
use Rattle.edge_numbers.proofs.edge_numbers.EdgeNumbers.vertex_number.Goals as goal

pub returns-clause-number : goal.returns-clause-number
returns-clause-number c =
    subst (λ (ns : Numbered). IfSome c.number_of.result (IsNumberOfVertex ns c.args.vertex.now)) c.self.view_is
    (vertex_numbers c.self.inside.vertices.keys c.self.inside.edges.entries c.args.vertex.now c.number_of.result c.number_of.ensures.number)

pub returns-clause-only : goal.returns-clause-only
returns-clause-only c =
    subst (λ (ns : Numbered). (n : ℕ) → IsNumberOfVertex ns c.args.vertex.now n → c.number_of.result ≡ Some n) c.self.view_is
    (λ n is. c.number_of.ensures.only n (vertex_stands c.self.inside.vertices.keys c.self.inside.edges.entries c.args.vertex.now n is))
