-- Trees as lists of nodes in preorder.
-- The promise of the commands rests on these definitions.
use Rattle.std.specs.Prelude.{ℕ, zero, suc, ◌+◌, List, [], ◌∷◌, ◌++◌, Bool, false, Option, Some, None, if◌then◌else◌}
use Rattle.grove_sorts.specs.declared.position.Position.{Position}
use Rattle.grove_sorts.specs.declared.sort.Sort.{Sort}
use Rattle.grove_sorts.specs.Ctor.{positions}
use Rattle.grove_edits.specs.declared.vertex.Vertex.{Vertex as VertexOf}
use Rattle.grove_edits.specs.declared.edge.Edge.{Edge}
use Rattle.grove_sorts.specs.Position.{is_same_position}
use Rattle.grove_edits.specs.Vertex.{is_same_vertex}
use Rattle.grove_terms.specs.declared.node.Node.{Node}
use Rattle.grove_terms.specs.declared.node.What.{What}
use Rattle.grove_terms.specs.declared.node.What.TheVariants.{Vertex, Hole, Conflict, MultiRef, CycleRef}
use Rattle.grove_terms.specs.Forest.{Forest, none, multi_ref, cycle_ref, tree}

-- a node without an edge at a position
abbrev pub node_at : ℕ → Position → What → Node
node_at depth p what = record { depth = depth; position = Some p; edge = None; what = what }

-- the node of a child
abbrev pub child_node : ℕ → Position → Edge → What → Node
child_node depth p e what = record { depth = depth; position = Some p; edge = Some e; what = what }

-- the node at the head of a tree
abbrev pub head_node : VertexOf → Node
head_node v = record { depth = 0; position = None; edge = None; what = Vertex v }

-- the nodes of a position at which so many children stand, which are listed at any depth: a hole where there is none, the sole
-- child, or a conflict and under it each child
abbrev pub place_nodes : ℕ → (ℕ → List Node) → ℕ → Position → Sort → List Node
place_nodes zero children depth p sort = node_at depth p (Hole sort) ∷ []
place_nodes (suc zero) children depth p sort = children depth
place_nodes (suc (suc n)) children depth p sort = node_at depth p (Conflict sort (suc (suc n))) ∷ children (depth + 1)

-- the nodes of some positions, in order
abbrev pub places_nodes : List (Position × Sort) → (Position → ℕ) → (ℕ → Position → List Node) → ℕ → List Node
places_nodes [] counts children depth = []
places_nodes (p ∷ ps) counts children depth = place_nodes (counts p.0) (λ d. children d p.0) depth p.0 p.1 ++ places_nodes ps counts children depth

-- how many children stand at a position
abbrev pub count_at : Forest → Position → ℕ
count_at none p = 0
count_at (multi_ref e rest) p = if is_same_position e.position p then suc (count_at rest p) else count_at rest p
count_at (cycle_ref e rest) p = if is_same_position e.position p then suc (count_at rest p) else count_at rest p
count_at (tree e below rest) p = if is_same_position e.position p then suc (count_at rest p) else count_at rest p

-- the nodes of the children at a position, each with what stands under it
abbrev pub child_nodes : Forest → ℕ → Position → List Node
child_nodes none depth p = []
child_nodes (multi_ref e rest) depth p =
    if is_same_position e.position p then (child_node depth p e (MultiRef e.target) ∷ child_nodes rest depth p) else child_nodes rest depth p
child_nodes (cycle_ref e rest) depth p =
    if is_same_position e.position p then (child_node depth p e (CycleRef e.target) ∷ child_nodes rest depth p) else child_nodes rest depth p
child_nodes (tree e below rest) depth p =
    if is_same_position e.position p then
    (child_node depth p e (Vertex e.target) ∷ (places_nodes (positions e.target.ctor) (count_at below) (child_nodes below) (depth + 1) ++ child_nodes rest depth p))
    else child_nodes rest depth p

-- the nodes of what stands under a vertex
abbrev pub nodes_under : VertexOf → Forest → ℕ → List Node
nodes_under v forest depth = places_nodes (positions v.ctor) (count_at forest) (child_nodes forest) depth

-- the nodes of a tree
abbrev pub tree_nodes : VertexOf → Forest → List Node
tree_nodes v forest = head_node v ∷ nodes_under v forest 1

abbrev pub edge_before : Option Edge → List Edge → List Edge
edge_before None es = es
edge_before (Some e) es = e ∷ es

-- the edges of some nodes
abbrev pub node_edges : List Node → List Edge
node_edges [] = []
node_edges (n ∷ ns) = edge_before n.edge (node_edges ns)

abbrev pub is_vertex_node : VertexOf → What → Bool
is_vertex_node v (Vertex u) = is_same_vertex v u
is_vertex_node v _ = false

-- the node is this vertex, and heads a tree or stands in one with what is under it
abbrev pub is_headed_by : VertexOf → Node → Bool
is_headed_by v node = is_vertex_node v node.what
