-- The vertices and edges of a graph by their numbers. A number is an index in a list in which nothing stands twice.
use Rattle.std.specs.Prelude.{◌≡◌, ℕ, ◌<◌, true, List, [], ◌∷◌, ◌++◌, length, map, slice_index_or, if◌then◌else◌}
use Rattle.std.specs.List.{list_any}
use Rattle.edge_lattice.specs.declared.state.State.{State}
use Rattle.edge_lattice.specs.declared.state.State.TheVariants.{Absent}
use Rattle.grove_sorts.specs.declared.position.Position.TheVariants.{Main}
use Rattle.grove_edits.specs.declared.vertex.Vertex.{Vertex}
use Rattle.grove_edits.specs.declared.edge.Edge.{Edge}
use Rattle.grove_edits.specs.Vertex.{root, stands_in}
use Rattle.grove_edits.specs.Graph.{is_same_edge}
use Rattle.graph_words.specs.States.{Entries}

-- the vertices and the edges in the order of their numbers
pub record Numbered : Type 0 where
  pub vertices : List Vertex
  pub entries : Entries

abbrev pub edges_of : Entries → List Edge
edges_of entries = map (λ entry. entry.0) entries

abbrev pub states_of : Entries → List State
states_of entries = map (λ entry. entry.1) entries

-- ---- numbers

-- no edge of any graph
abbrev pub no_edge : Edge
no_edge = record { name = record { author = 0; counter = 0 }; source = root; position = Main; target = root }

-- the number is that of an edge
abbrev pub IsEdgeNumber : Numbered → ℕ → Type 0
IsEdgeNumber numbers n = n < length numbers.entries

-- the number is that of a vertex
abbrev pub IsVertexNumber : Numbered → ℕ → Type 0
IsVertexNumber numbers n = n < length numbers.vertices

-- the edge with a number
abbrev pub edge_at : Numbered → ℕ → Edge
edge_at numbers n = slice_index_or (edges_of numbers.entries) n no_edge

-- the state of the edge with a number
abbrev pub state_at : Numbered → ℕ → State
state_at numbers n = slice_index_or (states_of numbers.entries) n Absent

-- the vertex with a number
abbrev pub vertex_at : Numbered → ℕ → Vertex
vertex_at numbers n = slice_index_or numbers.vertices n root

-- the edge has the number
abbrev pub IsNumberOfEdge : Numbered → Edge → ℕ → Type 0
IsNumberOfEdge numbers e n = IsEdgeNumber numbers n × (edge_at numbers n ≡ e)

-- the vertex has the number
abbrev pub IsNumberOfVertex : Numbered → Vertex → ℕ → Type 0
IsNumberOfVertex numbers v n = IsVertexNumber numbers n × (vertex_at numbers n ≡ v)

-- each number of an edge is that of the same edge still
abbrev pub KeepsNumbers : Numbered → Numbered → Type 0
KeepsNumbers before after = (n : ℕ) → IsEdgeNumber before n → IsNumberOfEdge after (edge_at before n) n

-- both ends of the edge are among the vertices
abbrev pub HasEndsIn : List Vertex → Edge → Type 0
HasEndsIn vertices e = (stands_in e.source vertices ≡ true) × (stands_in e.target vertices ≡ true)

-- ---- what is entered

-- the list with a vertex, which goes last where it does not stand there yet
abbrev pub with_vertex : Vertex → List Vertex → List Vertex
with_vertex v vertices = if stands_in v vertices then vertices else vertices ++ v ∷ []

-- the entries with one of an edge, which goes last with the state Absent where it has none yet
abbrev pub with_entry : Edge → Entries → Entries
with_entry e entries = if list_any (is_same_edge e) (edges_of entries) then entries else entries ++ (e, Absent) ∷ []

-- the list begins with another, so what had a number has it still
abbrev pub BeginsWith : List Vertex → List Vertex → Type 0
BeginsWith vertices before = (more : List Vertex) × (vertices ≡ before ++ more)
