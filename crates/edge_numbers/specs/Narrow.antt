-- Inner model, which no public contract cites: edges whose ends are told by the numbers of vertices.
use Rattle.std.specs.Prelude.{◌<◌, ◌≤◌, ◌^◌, List, length, map, slice_index_or}
use Rattle.std.specs.List.{AllByRecursion, IsDistinct}
use Rattle.std.specs.Map.{keys_of}
use Rattle.edge_lattice.specs.declared.state.State.{State}
use Rattle.grove_edits.specs.declared.vertex.Vertex.{Vertex}
use Rattle.grove_edits.specs.declared.edge.Edge.{Edge}
use Rattle.grove_edits.specs.Vertex.{root, is_same_vertex}
use Rattle.grove_edits.specs.Graph.{is_same_edge}
use Rattle.edge_numbers.specs.declared.narrow_edge.NarrowEdge.{NarrowEdge}
use Rattle.edge_numbers.specs.Numbered.{Numbered, edges_of}
use Rattle.graph_words.specs.States.{Entries}

-- the edge that a narrow one stands for
abbrev pub edge_of : List Vertex → NarrowEdge → Edge
edge_of vertices narrow =
    record { name = narrow.name; source = slice_index_or vertices narrow.source root; position = narrow.position; target = slice_index_or vertices narrow.target root }

-- both numbers of its ends are those of vertices
abbrev pub HasEnds : List Vertex → NarrowEdge → Type 0
HasEnds vertices narrow = (narrow.source < length vertices) × (narrow.target < length vertices)

abbrev pub NarrowEntries : Type 0
NarrowEntries = List (NarrowEdge × State)

abbrev pub entry_of : List Vertex → NarrowEdge × State → Edge × State
entry_of vertices entry = (edge_of vertices entry.0, entry.1)

-- the entries that narrow ones stand for
abbrev pub entries_of : List Vertex → NarrowEntries → Entries
entries_of vertices edges = map (entry_of vertices) edges

-- what is kept stands for this
abbrev pub numbered : List Vertex → NarrowEntries → Numbered
numbered vertices edges = record { vertices = vertices; entries = entries_of vertices edges }

-- nothing has two numbers, and each number of an end is that of a vertex
pub record IsNumbered (vertices : List Vertex) (edges : NarrowEntries) : Type 0 where
  pub fits : length vertices ≤ 2 ^ 32
  pub vertices_once : IsDistinct is_same_vertex vertices
  pub ends : AllByRecursion (HasEnds vertices) (keys_of edges)
  pub edges_once : IsDistinct is_same_edge (edges_of (entries_of vertices edges))
