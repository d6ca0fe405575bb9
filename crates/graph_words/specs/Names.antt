-- The names in a graph, and the greatest counter of an author among names.
use Rattle.std.specs.Prelude.{◌≡◌, ◌≢◌, ◌⊎◌, ◌≤◌, ℕ}
use Rattle.edge_lattice.specs.declared.state.State.TheVariants.{Absent}
use Rattle.grove_names.specs.declared.name.Name.{Name}
use Rattle.grove_edits.specs.declared.vertex.Vertex.{Vertex}
use Rattle.grove_edits.specs.declared.edge.Edge.{Edge}
use Rattle.grove_edits.specs.Graph.{Graph}
use Rattle.graph_words.specs.Whole.{IsVertexOf}
use Rattle.graph_words.specs.States.{Entries, state_in}

abbrev pub name_by : ℕ → ℕ → Name
name_by author counter = record { author = author; counter = counter }

-- the name of an edge that is not Absent, or of a vertex of the graph
abbrev pub IsNameOf : Graph → Name → Type 0
IsNameOf g n = ((e : Edge) × (g e ≢ Absent) × (e.name ≡ n)) ⊎ ((v : Vertex) × IsVertexOf g v × (v.name ≡ n))

-- the name of an edge that is not Absent
abbrev pub IsNameOfEdge : Entries → Name → Type 0
IsNameOfEdge entries n = (e : Edge) × (state_in entries e ≢ Absent) × (e.name ≡ n)

-- no name by the author has a greater counter, and the counter is 0 or that of a name by the author
pub record IsGreatest (IsName : Name → Type 0) (author counter : ℕ) : Type 0 where
  pub no_greater : (n : Name) → IsName n → n.author ≡ author → n.counter ≤ counter
  pub reached : (counter ≡ 0) ⊎ IsName (name_by author counter)
