use Rattle.live_graph.specs.Around.{source_of, target_of}
use Rattle.edge_lists.specs.Order.{position_first}
use Rattle.edge_lists.specs.OrderLaws.{position_first_exact}
use Rattle.grove_edits.specs.Edge.{edge_cmp}
use Rattle.grove_edits.proofs.Orders.{edge_cmp_exact}
use Rattle.live_graph.proofs.Numbers.{kept_fits}
use Rattle.live_graph.proofs.Changes.{put_new, put_place, put_list, around-put}
use Rattle.live_graph.proofs.live_lists.put.Goals as goal

pub put-requires-clause-vertex : goal.put-requires-clause-vertex
put-requires-clause-vertex c =
    put_list source_of position_first c.args.edges.now c.args.number c.edge_count-edges.ensures.once c.requires.number c.args.children.now c.requires.listed.sources
    c.source.result c.vertex_count-vertices.ensures.once c.source.ensures c.requires.not_live

pub put-requires-clause-new : goal.put-requires-clause-new
put-requires-clause-new c =
    put_new source_of position_first c.args.edges.now c.args.number c.edge_count-edges.ensures.once c.requires.number c.args.children.now c.requires.listed.sources
    c.source.result c.vertex_count-vertices.ensures.once c.source.ensures c.requires.not_live

pub put-requires-clause-place : goal.put-requires-clause-place
put-requires-clause-place c =
    put_place source_of position_first c.args.edges.now c.args.number c.edge_count-edges.ensures.once c.requires.number c.args.children.now c.requires.listed.sources
    c.source.result c.vertex_count-vertices.ensures.once c.source.ensures c.requires.not_live

pub put-requires-2-clause-vertex : goal.put-requires-2-clause-vertex
put-requires-2-clause-vertex c =
    put_list target_of edge_cmp c.args.edges.now c.args.number c.edge_count-edges.ensures.once c.requires.number c.args.parents.now c.requires.listed.targets
    c.target.result c.vertex_count-vertices.ensures.once c.target.ensures c.requires.not_live

pub put-requires-2-clause-new : goal.put-requires-2-clause-new
put-requires-2-clause-new c =
    put_new target_of edge_cmp c.args.edges.now c.args.number c.edge_count-edges.ensures.once c.requires.number c.args.parents.now c.requires.listed.targets
    c.target.result c.vertex_count-vertices.ensures.once c.target.ensures c.requires.not_live

pub put-requires-2-clause-place : goal.put-requires-2-clause-place
put-requires-2-clause-place c =
    put_place target_of edge_cmp c.args.edges.now c.args.number c.edge_count-edges.ensures.once c.requires.number c.args.parents.now c.requires.listed.targets
    c.target.result c.vertex_count-vertices.ensures.once c.target.ensures c.requires.not_live

pub returns : goal.returns
returns c state after set lives =
    let once_edges = c.edge_count-edges.ensures.once in
    let once_vertices = c.vertex_count-vertices.ensures.once in
    let from = c.put.ensures in
    let to = c.put-2.ensures in
    record {
      fits = kept_fits c.args.edges.now after set.kept_edges c.requires.listed.fits;
      sources =
          around-put source_of position_first c.args.edges.now c.args.number once_edges c.requires.number c.args.children.now c.requires.listed.sources
          c.source.result once_vertices c.source.ensures c.requires.not_live position_first_exact state after c.put.new.self set lives
          from.edges from.numbers from.holds from.in_order from.places from.others;
      targets =
          around-put target_of edge_cmp c.args.edges.now c.args.number once_edges c.requires.number c.args.parents.now c.requires.listed.targets
          c.target.result once_vertices c.target.ensures c.requires.not_live edge_cmp_exact state after c.put-2.new.self set lives
          to.edges to.numbers to.holds to.in_order to.places to.others;
    }
