-- The grove of a graph.
-- The promise of the commands rests on these definitions.
use Rattle.std.specs.Prelude.{◌≡◌, List, [], ◌∷◌, ◌++◌}
use Rattle.grove_edits.specs.declared.vertex.Vertex.{Vertex}
use Rattle.grove_edits.specs.declared.edge.Edge.{Edge}
use Rattle.grove_edits.specs.Graph.{Graph}
use Rattle.graph_words.specs.declared.class.Class.TheVariants.{NoParent, Multi, Cycle}
use Rattle.graph_words.specs.Class.{of_class}
use Rattle.graph_words.specs.Whole.{AreVertices, AreLive}
use Rattle.grove_terms.specs.declared.node.Node.{Node}
use Rattle.grove_terms.specs.declared.grove.Grove.{Grove}
use Rattle.grove_terms.specs.Forest.{Forest, StandsUnder}
use Rattle.grove_terms.specs.Nodes.{tree_nodes, node_edges}

-- the nodes are those of the tree that stands for a vertex of the graph with these live edges
pub record IsTreeOf (live : List Edge) (v : Vertex) (nodes : List Node) : Type 0 where
  pub forest : Forest
  pub stands : StandsUnder live v forest
  pub listed : nodes ≡ tree_nodes v forest

-- each tree stands for the vertex at its place
abbrev pub AreTreesOf : List Edge → List Vertex → List (List Node) → Type 0
AreTreesOf live [] [] = Unit {0}
AreTreesOf live [] (t ∷ ts) = ⊥
AreTreesOf live (v ∷ vs) [] = ⊥
AreTreesOf live (v ∷ vs) (t ∷ ts) = IsTreeOf live v t × AreTreesOf live vs ts

-- The trees of a graph: those of the vertices without a live parent edge, of those with two or more, and of the least vertices of
-- its cycles, each list in vertex order.
pub record IsGrove (g : Graph) (grove : Grove) : Type 0 where
  pub live : List Edge
  pub vertices : List Vertex
  pub are_live : AreLive g live
  pub are_vertices : AreVertices g vertices
  pub none : AreTreesOf live (of_class NoParent live vertices) grove.none
  pub multi : AreTreesOf live (of_class Multi live vertices) grove.multi
  pub cycle : AreTreesOf live (of_class Cycle live vertices) grove.cycle

abbrev pub trees_edges : List (List Node) → List Edge
trees_edges [] = []
trees_edges (t ∷ ts) = node_edges t ++ trees_edges ts

-- the edges at all places of a grove
abbrev pub edges_in : Grove → List Edge
edges_in grove = trees_edges grove.none ++ (trees_edges grove.multi ++ trees_edges grove.cycle)

abbrev pub trees_nodes : List (List Node) → List Node
trees_nodes [] = []
trees_nodes (t ∷ ts) = t ++ trees_nodes ts

-- the nodes of all trees of a grove
abbrev pub nodes_in : Grove → List Node
nodes_in grove = trees_nodes grove.none ++ (trees_nodes grove.multi ++ trees_nodes grove.cycle)
