use Rattle.std.proofs.Common.{sym, subst, ◌∙◌}
use Rattle.std.specs.Prelude.{IfSome}
use Rattle.std.specs.Map.{keys_of}
use Rattle.edge_numbers.specs.Numbered.{Numbered, IsNumberOfEdge}
use Rattle.edge_numbers.proofs.NarrowEq.{eq, itself, exact}
use Rattle.edge_numbers.proofs.Places.{place_only}
use Rattle.edge_numbers.proofs.Narrow.{narrow_there}
use Rattle.edge_numbers.proofs.FoundEnds.{edge_numbers}
use Rattle.edge_numbers.proofs.edge_numbers.EdgeNumbers.number.Goals as goal

pub returns-in_err-narrow-clause-only : goal.returns-in_err-narrow-clause-only
returns-in_err-narrow-clause-only c n is =
    let number = subst (λ (ns : Numbered). IsNumberOfEdge ns c.args.edge.now n) (sym c.self.view_is) is in
    let there = narrow_there c.self.inside.vertices.keys c.self.inside.edges.entries n c.args.edge.now c.self.invariant.ends number in
    let found = c.in_err-narrow.ensures.only there.0 there.2 there.3 in
    absurd cc

pub returns-clause-number : goal.returns-clause-number
returns-clause-number c =
    subst (λ (ns : Numbered). IfSome c.get_index_of.result (IsNumberOfEdge ns c.args.edge.now)) c.self.view_is
    (edge_numbers c.self.inside.vertices.keys c.args.edge.now c.self.inside.edges.entries c.in_ok-narrow.narrow c.in_ok-narrow.ensures.edge c.get_index_of.result c.get_index_of.ensures.index)

pub returns-clause-only : goal.returns-clause-only
returns-clause-only c n is =
    let number = subst (λ (ns : Numbered). IsNumberOfEdge ns c.args.edge.now n) (sym c.self.view_is) is in
    let there = narrow_there c.self.inside.vertices.keys c.self.inside.edges.entries n c.args.edge.now c.self.invariant.ends number in
    let found = c.in_ok-narrow.ensures.only there.0 there.2 there.3 in
    c.get_index_of.ensures.index
    ∙ place_only eq itself exact (keys_of c.self.inside.edges.entries) c.in_ok-narrow.narrow n c.get_index_of.ensures.unique (there.1 ∙ sym found)
