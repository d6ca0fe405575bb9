use Rattle.grove_edits.specs.Edge.{edge_cmp}
use Rattle.edge_lists.specs.Order.{position_first}
use Rattle.edge_numbers.specs.Numbered.{IsNumberOfVertex}
use Rattle.live_graph.specs.Around.{source_of, target_of}
use Rattle.live_graph.proofs.Listed.{number_stands, listed-vertices, listed-twice, listed-places, no_lists_change, place_made}
use Rattle.live_graph.proofs.places.make_places.Goals as goal
use Rattle.live_graph.proofs.places.make_places.Goals.{In_ok-make_place-2}

pub returns-in_err-source-clause-listed : goal.returns-in_err-source-clause-listed
returns-in_err-source-clause-listed c =
    listed-vertices c.args.edges.now c.enter_vertex.new.self c.args.children.now c.args.parents.now c.enter_vertex.ensures.entries c.enter_vertex.ensures.vertices_stay
    c.edge_count-edges.ensures.ends c.requires

pub returns-in_err-target-clause-listed : goal.returns-in_err-target-clause-listed
returns-in_err-target-clause-listed c = listed-twice c.args.edges.now c.enter_vertex.new.self c.enter_vertex-2.new.self c.args.children.now c.args.parents.now c.enter_vertex.ensures.entries c.enter_vertex.ensures.vertices_stay
    c.enter_vertex-2.ensures.entries c.enter_vertex-2.ensures.vertices_stay c.edge_count-edges.ensures.ends c.requires

pub returns-in_err-make_place-clause-listed : goal.returns-in_err-make_place-clause-listed
returns-in_err-make_place-clause-listed c =
    listed-places c.enter_vertex-2.new.self c.args.children.now c.args.parents.now c.make_place.new.lists c.args.parents.now c.make_place.ensures.kept (no_lists_change c.args.parents.now) (listed-twice c.args.edges.now c.enter_vertex.new.self c.enter_vertex-2.new.self c.args.children.now c.args.parents.now c.enter_vertex.ensures.entries c.enter_vertex.ensures.vertices_stay
    c.enter_vertex-2.ensures.entries c.enter_vertex-2.ensures.vertices_stay c.edge_count-edges.ensures.ends c.requires)

pub returns-in_err-make_place-2-clause-listed : goal.returns-in_err-make_place-2-clause-listed
returns-in_err-make_place-2-clause-listed c =
    listed-places c.enter_vertex-2.new.self c.args.children.now c.args.parents.now c.make_place.new.lists c.make_place-2.new.lists c.make_place.ensures.kept c.make_place-2.ensures.kept (listed-twice c.args.edges.now c.enter_vertex.new.self c.enter_vertex-2.new.self c.args.children.now c.args.parents.now c.enter_vertex.ensures.entries c.enter_vertex.ensures.vertices_stay
    c.enter_vertex-2.ensures.entries c.enter_vertex-2.ensures.vertices_stay c.edge_count-edges.ensures.ends c.requires)

pub returns-clause-listed : goal.returns-clause-listed
returns-clause-listed c =
    listed-places c.enter_vertex-2.new.self c.args.children.now c.args.parents.now c.make_place.new.lists c.make_place-2.new.lists c.make_place.ensures.kept c.make_place-2.ensures.kept (listed-twice c.args.edges.now c.enter_vertex.new.self c.enter_vertex-2.new.self c.args.children.now c.args.parents.now c.enter_vertex.ensures.entries c.enter_vertex.ensures.vertices_stay
    c.enter_vertex-2.ensures.entries c.enter_vertex-2.ensures.vertices_stay c.edge_count-edges.ensures.ends c.requires)

source_number : (c : In_ok-make_place-2) → IsNumberOfVertex c.enter_vertex-2.new.self c.args.edge.now.source c.in_ok-source.source
source_number c = c.enter_vertex-2.ensures.numbers_stay c.args.edge.now.source c.in_ok-source.source c.in_ok-source.ensures.number

pub returns-clause-numbers : goal.returns-clause-numbers
returns-clause-numbers c = (source_number c, c.in_ok-target.ensures.number)

pub returns-clause-ends : goal.returns-clause-ends
returns-clause-ends c =
    (number_stands c.enter_vertex-2.new.self c.args.edge.now.source c.in_ok-source.source (source_number c), number_stands c.enter_vertex-2.new.self c.args.edge.now.target c.in_ok-target.target c.in_ok-target.ensures.number)

pub returns-clause-source : goal.returns-clause-source
returns-clause-source c =
    place_made source_of position_first c.enter_vertex-2.new.self c.args.children.now c.make_place.new.lists c.args.edge.now c.in_ok-source.source c.vertex_count-vertices.ensures.once
    (source_number c) c.make_place.ensures.kept c.in_ok-make_place.ensures.place (listed-twice c.args.edges.now c.enter_vertex.new.self c.enter_vertex-2.new.self c.args.children.now c.args.parents.now c.enter_vertex.ensures.entries c.enter_vertex.ensures.vertices_stay
    c.enter_vertex-2.ensures.entries c.enter_vertex-2.ensures.vertices_stay c.edge_count-edges.ensures.ends c.requires).sources

pub returns-clause-target : goal.returns-clause-target
returns-clause-target c =
    place_made target_of edge_cmp c.enter_vertex-2.new.self c.args.parents.now c.make_place-2.new.lists c.args.edge.now c.in_ok-target.target c.vertex_count-vertices.ensures.once
    c.in_ok-target.ensures.number c.make_place-2.ensures.kept c.in_ok-make_place-2.ensures.place (listed-twice c.args.edges.now c.enter_vertex.new.self c.enter_vertex-2.new.self c.args.children.now c.args.parents.now c.enter_vertex.ensures.entries c.enter_vertex.ensures.vertices_stay
    c.enter_vertex-2.ensures.entries c.enter_vertex-2.ensures.vertices_stay c.edge_count-edges.ensures.ends c.requires).targets
