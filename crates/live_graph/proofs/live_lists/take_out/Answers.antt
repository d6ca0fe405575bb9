use Rattle.live_graph.specs.Around.{source_of, target_of}
use Rattle.edge_lists.specs.Order.{position_first}
use Rattle.grove_edits.specs.Edge.{edge_cmp}
use Rattle.live_graph.proofs.Numbers.{kept_fits}
use Rattle.live_graph.proofs.Changes.{take_held, take_list, around-take_out}
use Rattle.live_graph.proofs.live_lists.take_out.Goals as goal

pub take_out-requires-clause-vertex : goal.take_out-requires-clause-vertex
take_out-requires-clause-vertex c =
    take_list source_of position_first c.args.edges.now c.args.number c.edge_count-edges.ensures.once c.requires.number c.args.children.now c.requires.listed.sources
    c.source.result c.vertex_count-vertices.ensures.once c.source.ensures c.requires.live

pub take_out-requires-clause-held : goal.take_out-requires-clause-held
take_out-requires-clause-held c =
    take_held source_of position_first c.args.edges.now c.args.number c.edge_count-edges.ensures.once c.requires.number c.args.children.now c.requires.listed.sources
    c.source.result c.vertex_count-vertices.ensures.once c.source.ensures c.requires.live

pub take_out-requires-2-clause-vertex : goal.take_out-requires-2-clause-vertex
take_out-requires-2-clause-vertex c =
    take_list target_of edge_cmp c.args.edges.now c.args.number c.edge_count-edges.ensures.once c.requires.number c.args.parents.now c.requires.listed.targets
    c.target.result c.vertex_count-vertices.ensures.once c.target.ensures c.requires.live

pub take_out-requires-2-clause-held : goal.take_out-requires-2-clause-held
take_out-requires-2-clause-held c =
    take_held target_of edge_cmp c.args.edges.now c.args.number c.edge_count-edges.ensures.once c.requires.number c.args.parents.now c.requires.listed.targets
    c.target.result c.vertex_count-vertices.ensures.once c.target.ensures c.requires.live

pub returns : goal.returns
returns c state after set dead =
    let once_edges = c.edge_count-edges.ensures.once in
    let once_vertices = c.vertex_count-vertices.ensures.once in
    let from = c.take_out.ensures in
    let to = c.take_out-2.ensures in
    record {
      fits = kept_fits c.args.edges.now after set.kept_edges c.requires.listed.fits;
      sources =
          around-take_out source_of position_first c.args.edges.now c.args.number once_edges c.requires.number c.args.children.now c.requires.listed.sources
          c.source.result once_vertices c.source.ensures c.requires.live state after c.take_out.new.self set dead
          from.edges from.numbers from.holds from.in_order from.places from.others;
      targets =
          around-take_out target_of edge_cmp c.args.edges.now c.args.number once_edges c.requires.number c.args.parents.now c.requires.listed.targets
          c.target.result once_vertices c.target.ensures c.requires.live state after c.take_out-2.new.self set dead
          to.edges to.numbers to.holds to.in_order to.places to.others;
    }
