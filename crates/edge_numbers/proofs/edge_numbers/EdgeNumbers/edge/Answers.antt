use Rattle.std.proofs.Common.{sym, ap, ◌∙◌}
use Rattle.edge_numbers.specs.Numbered.{Numbered, edge_at}
use Rattle.edge_numbers.proofs.Narrow.{edge_read, edge_of_ends, ends_read}
use Rattle.edge_numbers.proofs.edge_numbers.EdgeNumbers.edge.Goals as goal

pub returns : goal.returns
returns c =
    let vs = c.self.inside.vertices.keys in
    let es = c.self.inside.edges.entries in
    let narrow = c.narrow_at-narrow.result.now in
    edge_of_ends vs c.as_slice-vertices.result.now narrow c.index-vertices-narrow.result c.index-vertices-narrow-2.result c.as_slice-vertices.ensures.keys
    (ends_read vs es c.args.number narrow c.narrow_at-narrow.ensures c.self.invariant.ends) c.index-vertices-narrow.is c.index-vertices-narrow-2.is
    ∙ sym (edge_read vs es c.args.number narrow c.narrow_at-narrow.ensures)
    ∙ ap (λ (ns : Numbered). edge_at ns c.args.number) c.self.view_is
