-- The live edges of a graph in edge order, and those of one vertex.
-- The promise of the commands rests on these definitions.
use Rattle.std.specs.Prelude.{◌≡◌, Bool, ◌&&◌, List, [], ◌∷◌, if◌then◌else◌, filter}
use Rattle.std.specs.List.{AllByRecursion, list_any}
use Rattle.std.specs.declared.cmp.Ordering.TheVariants.{Less}
use Rattle.grove_sorts.specs.declared.position.Position.{Position}
use Rattle.grove_sorts.specs.Position.{is_same_position}
use Rattle.grove_edits.specs.declared.vertex.Vertex.{Vertex}
use Rattle.grove_edits.specs.declared.edge.Edge.{Edge}
use Rattle.grove_edits.specs.Vertex.{is_same_vertex, stands_in}
use Rattle.grove_edits.specs.Edge.{edge_cmp}
use Rattle.grove_edits.specs.Graph.{is_same_edge}

-- each edge comes before all later ones, so none stands twice
abbrev pub IsInEdgeOrder : List Edge → Type 0
IsInEdgeOrder [] = Unit {0}
IsInEdgeOrder (e ∷ es) = AllByRecursion (λ later. edge_cmp e later ≡ Less) es × IsInEdgeOrder es

-- the edge stands in the list
abbrev pub holds_edge : Edge → List Edge → Bool
holds_edge e xs = list_any (λ x. is_same_edge x e) xs

-- the live edges to a vertex
abbrev pub parents_of : Vertex → List Edge → List Edge
parents_of v edges = filter (λ e. is_same_vertex e.target v) edges

-- the live edges from a position of a vertex
abbrev pub children_of : Vertex → Position → List Edge → List Edge
children_of v p edges = filter (λ e. is_same_vertex e.source v && is_same_position e.position p) edges

-- the vertices with a live parent edge, each once
abbrev pub targets_of : List Edge → List Vertex
targets_of [] = []
targets_of (e ∷ es) = if stands_in e.target (targets_of es) then targets_of es else (e.target ∷ targets_of es)

-- the edge leads from the position of the vertex
abbrev pub is_from : Edge → Vertex → Position → Bool
is_from e v p = is_same_vertex e.source v && is_same_position e.position p
