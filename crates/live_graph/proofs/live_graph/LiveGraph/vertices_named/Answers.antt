use Rattle.std.proofs.Common.{subst}
use Rattle.std.specs.Prelude.{◌&&◌, ◌||◌}
use Rattle.std.specs.List.{list_any}
use Rattle.grove_edits.specs.Vertex.{is_same_vertex, root}
use Rattle.graph_words.specs.States.{Entries}
use Rattle.numbers_by_name.specs.ByName.{numbers_of, is_same_name}
use Rattle.live_graph.specs.Uses.{is_named_vertex}
use Rattle.graph_words.specs.Named.{AreLeastTwo, IsVertexNamed}
use Rattle.live_graph.proofs.LeastTwo.{least_two_alike}
use Rattle.live_graph.proofs.VertexNames.{least_two_named}
use Rattle.live_graph.proofs.live_graph.LiveGraph.vertices_named.Goals as goal

pub returns : goal.returns
returns c =
    let edges = c.self.inside.edges in
    let uses = c.self.inside.uses.items in
    let names = c.self.inside.vertex_names in
    let name = c.args.name in
    subst (λ (es : Entries). AreLeastTwo (IsVertexNamed es name) c.least_named.result) c.self.view_is
    (least_two_named edges c.edge_count-edges.ensures.once c.vertex_count-vertices.ensures.once uses c.self.invariant.used names c.self.invariant.vertices_named name c.least_named.result
    (least_two_alike (λ v. (is_same_name root.name name && is_same_vertex root v) || list_any (is_named_vertex edges c.deref.result.now name v) c.with_name.result.now)
    (λ v. (is_same_name root.name name && is_same_vertex root v) || list_any (is_named_vertex edges uses name v) (numbers_of names name))
    (λ v j. (is_same_name root.name name && is_same_vertex root v) || list_any (is_named_vertex edges (c.deref.ensures.value j) name v) (c.with_name.ensures j))
    c.least_named.result c.least_named.ensures))
