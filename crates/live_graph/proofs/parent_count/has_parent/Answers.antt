use Rattle.std.proofs.Common.{length, sym, ap, ◌∙◌, arith}
use Rattle.std.specs.Prelude.{◌==◌, not}
use Rattle.live_graph.proofs.Children.{nothing_at}
use Rattle.live_graph.proofs.Targets.{listed_target}
use Rattle.live_graph.proofs.parent_count.has_parent.Goals as goal

pub returns-then-vertex-vertex_count : goal.returns-then-vertex-vertex_count
returns-then-vertex-vertex_count c =
    ap (λ ns. not (length ns == 0)) (sym (nothing_at c.args.parents.now c.args.vertex (λ within. omega (arith, within, c.vertex_count.ensures, c.if-vertex-vertex_count.true))))
    ∙ sym (listed_target c.args.edges.now c.args.vertex c.args.parents.now c.edge_count-edges.ensures.once c.vertex_count-vertices.ensures.once c.requires.vertex c.requires.around)

pub returns : goal.returns
returns c =
    ap not (c.is_empty.ensures ∙ ap (λ ns. length ns == 0) c.at.ensures.numbers)
    ∙ sym (listed_target c.args.edges.now c.args.vertex c.args.parents.now c.edge_count-edges.ensures.once c.vertex_count-vertices.ensures.once c.requires.vertex c.requires.around)
