use Rattle.std.proofs.Common.{Some, sym, ap, ◌∙◌, arith}
use Rattle.std.proofs.lemmas.List.{length-map}
use Rattle.edge_numbers.specs.Numbered.{edges_of}
use Rattle.live_graph.proofs.Numbers.{one_number}
use Rattle.live_graph.proofs.by_name.at_number.Goals as goal

pub returns-then-is_edge-clause-only : goal.returns-then-is_edge-clause-only
returns-then-is_edge-clause-only c n is =
    let entries = c.args.edges.now.entries in
    let as_long = length-map entries (λ entry. entry.0) in
    ap Some
    (one_number (edges_of entries) c.args.number n c.edge_count-count.ensures.once (omega (arith, c.if-number-count.true, c.edge_count-count.ensures.count, as_long)) (omega (arith, is.0, as_long))
    (c.is_edge.ensures c.if-is_edge.true ∙ sym is.1))
