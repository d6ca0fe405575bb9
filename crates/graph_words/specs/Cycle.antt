-- What the walk up from a vertex leads to, and the vertices on a cycle.
use Rattle.std.specs.Prelude.{Bool, List}
use Rattle.grove_edits.specs.declared.vertex.Vertex.{Vertex}
use Rattle.grove_edits.specs.declared.edge.Edge.{Edge}
use Rattle.grove_edits.specs.Vertex.{stands_in}
use Rattle.graph_words.specs.Walk.{walk, above_last}
use Rattle.graph_words.specs.Class.{is_vertex_of}

-- the second vertex stands on the walk up from the first
abbrev pub leads_to : List Edge → Vertex → Vertex → Bool
leads_to edges v x = stands_in x (walk edges v)

-- the walk up from the vertex comes back to it
abbrev pub is_on_cycle : List Edge → Vertex → Bool
is_on_cycle edges v = is_vertex_of v (above_last edges (walk edges v))
