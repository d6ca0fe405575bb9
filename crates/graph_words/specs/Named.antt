-- The vertices and the edges of a graph that have a name.
use Rattle.std.specs.Prelude.{◌≡◌, ◌⊎◌, false, ◌≢◌, true, List}
use Rattle.std.specs.Ordering.{is_lt}
use Rattle.std.specs.declared.cmp.Ordering.TheVariants.{Less}
use Rattle.grove_names.specs.declared.name.Name.{Name}
use Rattle.grove_edits.specs.declared.vertex.Vertex.{Vertex}
use Rattle.grove_edits.specs.Vertex.{vertex_cmp}
use Rattle.graph_words.specs.declared.named.Named.{Named}
use Rattle.graph_words.specs.declared.named.Named.TheVariants.{Zero, One, More}
use Rattle.graph_words.specs.Whole.{IsVertexOf}
use Rattle.graph_words.specs.States.{Entries, state_in}
use Rattle.edge_lattice.specs.declared.state.State.TheVariants.{Absent}
use Rattle.grove_edits.specs.declared.edge.Edge.{Edge}
use Rattle.grove_edits.specs.Graph.{Graph}
use Rattle.graph_words.specs.Live.{IsInEdgeOrder, holds_edge}

abbrev pub IsVertexNamed : Entries → Name → Vertex → Type 0
IsVertexNamed entries name v = (v.name ≡ name) × IsVertexOf (state_in entries) v

-- the least two that have a property, or all where there are fewer
abbrev pub AreLeastTwo : (Vertex → Type 0) → Named → Type 0
AreLeastTwo P Zero = (v : Vertex) → P v → ⊥
AreLeastTwo P (One a) = P a × ((v : Vertex) → P v → v ≡ a)
AreLeastTwo P (More a b) = P a × P b × (vertex_cmp a b ≡ Less) × ((v : Vertex) → P v → (v ≡ a) ⊎ (is_lt (vertex_cmp v b) ≡ false))

-- the list has the edges of the graph with this name that are not Absent, in edge order
pub record AreNamed (g : Graph) (name : Name) (edges : List Edge) : Type 0 where
  pub in_order : IsInEdgeOrder edges
  pub each : (e : Edge) → e.name ≡ name → g e ≢ Absent → holds_edge e edges ≡ true
  pub no_other : (e : Edge) → holds_edge e edges ≡ true → (e.name ≡ name) × (g e ≢ Absent)
