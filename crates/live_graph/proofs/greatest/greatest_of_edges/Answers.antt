use Rattle.std.proofs.Common.{sym, ap, ◌∙◌}
use Rattle.std.specs.List.{list_any}
use Rattle.numbers_by_name.specs.ByName.{name_by}
use Rattle.live_graph.specs.ByName.{is_named}
use Rattle.graph_words.specs.Names.{IsNameOfEdge}
use Rattle.live_graph.proofs.Maxima.{greatest_found, before_more, none_greatest, edge_named, named_edge}
use Rattle.live_graph.proofs.greatest.greatest_of_edges.Goals as goal

pub returns-then-has_named_edge : goal.returns-then-has_named_edge
returns-then-has_named_edge c =
    greatest_found (IsNameOfEdge c.args.edges.now.entries) c.args.names.now (is_named c.args.edges.now) (edge_named c.args.edges.now c.edge_count-edges.ensures.once) (named_edge c.args.edges.now c.edge_count-edges.ensures.once c.args.names.now c.requires) c.args.author c.loop-counter.before c.loop-counter.invariant c.in-Some.counter c.in-Some.ensures.counter
    (ap (list_any (is_named c.args.edges.now (name_by c.args.author c.in-Some.counter))) (sym c.in-Some.ensures.numbers) ∙ sym c.has_named_edge.ensures ∙ c.if-has_named_edge.true)

pub loop-counter-preserved : goal.loop-counter-preserved
loop-counter-preserved c =
    before_more (IsNameOfEdge c.args.edges.now.entries) c.args.names.now (is_named c.args.edges.now) (edge_named c.args.edges.now c.edge_count-edges.ensures.once) (named_edge c.args.edges.now c.edge_count-edges.ensures.once c.args.names.now c.requires) c.args.author c.loop-counter.before c.loop-counter.invariant c.in-Some.counter c.in-Some.ensures.counter
    (ap (list_any (is_named c.args.edges.now (name_by c.args.author c.in-Some.counter))) (sym c.in-Some.ensures.numbers) ∙ sym c.has_named_edge.ensures ∙ c.if-has_named_edge.false)

pub returns : goal.returns
returns c = none_greatest (IsNameOfEdge c.args.edges.now.entries) c.args.names.now (is_named c.args.edges.now) (edge_named c.args.edges.now c.edge_count-edges.ensures.once) (named_edge c.args.edges.now c.edge_count-edges.ensures.once c.args.names.now c.requires) c.args.author c.loop-counter.before c.loop-counter.invariant c.in_default.ensures.none
