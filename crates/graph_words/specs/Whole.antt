-- What a graph has: its vertices, and its live edges.
-- The promise of the commands rests on these definitions.
use Rattle.std.specs.Prelude.{◌≡◌, ◌≢◌, ◌⊎◌, true, List, [], ◌∷◌}
use Rattle.std.specs.List.{AllByRecursion}
use Rattle.std.specs.declared.cmp.Ordering.TheVariants.{Less}
use Rattle.edge_lattice.specs.declared.state.State.TheVariants.{Absent, Live}
use Rattle.grove_edits.specs.declared.vertex.Vertex.{Vertex}
use Rattle.grove_edits.specs.declared.edge.Edge.{Edge}
use Rattle.grove_edits.specs.Vertex.{root, vertex_cmp, stands_in}
use Rattle.grove_edits.specs.Graph.{Graph}
use Rattle.graph_words.specs.Live.{IsInEdgeOrder, holds_edge}

-- the vertex `0.0 root`, or an end of an edge that is not Absent
abbrev pub IsVertexOf : Graph → Vertex → Type 0
IsVertexOf g v = (v ≡ root) ⊎ ((e : Edge) × (g e ≢ Absent) × ((e.source ≡ v) ⊎ (e.target ≡ v)))

-- each vertex comes before all later ones, so none stands twice
abbrev pub IsInVertexOrder : List Vertex → Type 0
IsInVertexOrder [] = Unit {0}
IsInVertexOrder (v ∷ vs) = AllByRecursion (λ later. vertex_cmp v later ≡ Less) vs × IsInVertexOrder vs

-- the list has the vertices of the graph, in vertex order
pub record AreVertices (g : Graph) (vertices : List Vertex) : Type 0 where
  pub in_order : IsInVertexOrder vertices
  pub each : (v : Vertex) → IsVertexOf g v → stands_in v vertices ≡ true
  pub no_other : (v : Vertex) → stands_in v vertices ≡ true → IsVertexOf g v

-- the list has the live edges of the graph, in edge order
pub record AreLive (g : Graph) (edges : List Edge) : Type 0 where
  pub in_order : IsInEdgeOrder edges
  pub each : (e : Edge) → g e ≡ Live → holds_edge e edges ≡ true
  pub no_other : (e : Edge) → holds_edge e edges ≡ true → g e ≡ Live
