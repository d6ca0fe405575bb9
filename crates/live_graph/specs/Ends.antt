-- Inner model, which no public contract cites: which vertices the entries name.
use Rattle.std.specs.Prelude.{◌≡◌, ◌≢◌, ◌⊎◌, Bool, ◌&&◌, ◌||◌}
use Rattle.edge_lattice.specs.declared.state.State.{State}
use Rattle.edge_lattice.specs.declared.state.State.TheVariants.{Absent}
use Rattle.grove_edits.specs.declared.vertex.Vertex.{Vertex}
use Rattle.grove_edits.specs.declared.edge.Edge.{Edge}
use Rattle.grove_edits.specs.Vertex.{is_same_vertex}
use Rattle.graph_words.specs.States.{Entries, state_in, is_present}

-- the vertex is an end of the edge, which is not Absent
abbrev pub has_end : Vertex → Edge × State → Bool
has_end v entry = is_present entry.1 && (is_same_vertex entry.0.source v || is_same_vertex entry.0.target v)

-- an edge that is not Absent has the vertex as an end
abbrev pub IsEndIn : Entries → Vertex → Type 0
IsEndIn entries v = (e : Edge) × (state_in entries e ≢ Absent) × ((e.source ≡ v) ⊎ (e.target ≡ v))
