use Rattle.std.proofs.Common.{sym, ap, ◌∙◌}
use Rattle.grove_edits.specs.Edge.{edge_cmp}
use Rattle.edge_numbers.specs.Numbered.{Numbered, edge_at}
use Rattle.edge_numbers.specs.Narrow.{edge_of}
use Rattle.edge_numbers.proofs.Narrow.{edge_read}
use Rattle.edge_numbers.proofs.edge_numbers.EdgeNumbers.cmp.Goals as goal

pub returns : goal.returns
returns c =
    let vs = c.self.inside.vertices.keys in
    let es = c.self.inside.edges.entries in
    let first = edge_read vs es c.args.a c.narrow_at-first.result.now c.narrow_at-first.ensures in
    let second = edge_read vs es c.args.b c.narrow_at-second.result.now c.narrow_at-second.ensures in
    c.compare_edges.ensures
    ∙ ap (λ vertices. edge_cmp (edge_of vertices c.narrow_at-first.result.now) (edge_of vertices c.narrow_at-second.result.now)) c.as_slice.ensures.keys
    ∙ (λ j. edge_cmp (sym first j) (sym second j))
    ∙ ap (λ (ns : Numbered). edge_cmp (edge_at ns c.args.a) (edge_at ns c.args.b)) c.self.view_is
