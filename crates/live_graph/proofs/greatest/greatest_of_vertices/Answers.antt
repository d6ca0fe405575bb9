use Rattle.std.proofs.Common.{sym, ap, ◌∙◌}
use Rattle.std.specs.List.{list_any}
use Rattle.numbers_by_name.specs.ByName.{name_by}
use Rattle.live_graph.specs.Greatest.{IsNameOfEnd}
use Rattle.live_graph.specs.Uses.{is_vertex_named}
use Rattle.live_graph.proofs.Maxima.{greatest_found, before_more, none_greatest, end_named, named_end}
use Rattle.live_graph.proofs.greatest.greatest_of_vertices.Goals as goal

pub returns-then-has_named_vertex : goal.returns-then-has_named_vertex
returns-then-has_named_vertex c =
    greatest_found (IsNameOfEnd c.args.edges.now.entries) c.args.names.now (is_vertex_named c.args.edges.now c.args.uses.now)
    (end_named c.args.edges.now c.edge_count-edges.ensures.once c.vertex_count-vertices.ensures.once c.args.uses.now c.requires.uses c.args.names.now c.requires.names)
    (named_end c.args.edges.now c.edge_count-edges.ensures.once c.vertex_count-vertices.ensures.once c.args.uses.now c.requires.uses c.args.names.now c.requires.names) c.args.author c.loop-counter.before c.loop-counter.invariant c.in-Some.counter c.in-Some.ensures.counter
    (ap (list_any (is_vertex_named c.args.edges.now c.args.uses.now (name_by c.args.author c.in-Some.counter))) (sym c.in-Some.ensures.numbers) ∙ sym c.has_named_vertex.ensures ∙ c.if-has_named_vertex.true)

pub loop-counter-preserved : goal.loop-counter-preserved
loop-counter-preserved c =
    before_more (IsNameOfEnd c.args.edges.now.entries) c.args.names.now (is_vertex_named c.args.edges.now c.args.uses.now)
    (end_named c.args.edges.now c.edge_count-edges.ensures.once c.vertex_count-vertices.ensures.once c.args.uses.now c.requires.uses c.args.names.now c.requires.names)
    (named_end c.args.edges.now c.edge_count-edges.ensures.once c.vertex_count-vertices.ensures.once c.args.uses.now c.requires.uses c.args.names.now c.requires.names) c.args.author c.loop-counter.before c.loop-counter.invariant c.in-Some.counter c.in-Some.ensures.counter
    (ap (list_any (is_vertex_named c.args.edges.now c.args.uses.now (name_by c.args.author c.in-Some.counter))) (sym c.in-Some.ensures.numbers) ∙ sym c.has_named_vertex.ensures ∙ c.if-has_named_vertex.false)

pub returns : goal.returns
returns c = none_greatest (IsNameOfEnd c.args.edges.now.entries) c.args.names.now (is_vertex_named c.args.edges.now c.args.uses.now)
    (end_named c.args.edges.now c.edge_count-edges.ensures.once c.vertex_count-vertices.ensures.once c.args.uses.now c.requires.uses c.args.names.now c.requires.names)
    (named_end c.args.edges.now c.edge_count-edges.ensures.once c.vertex_count-vertices.ensures.once c.args.uses.now c.requires.uses c.args.names.now c.requires.names) c.args.author c.loop-counter.before c.loop-counter.invariant c.in_default.ensures.none
