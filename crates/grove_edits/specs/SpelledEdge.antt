-- The vertices and edges that are spelled, and not whole.
use Rattle.grove_sorts.specs.Spelled.{spelled_ctor}
use Rattle.grove_edits.specs.declared.vertex.Vertex.{Vertex}
use Rattle.grove_edits.specs.declared.edge.Edge.{Edge}
use Rattle.grove_edits.specs.declared.spelled.SpelledVertex.{SpelledVertex}
use Rattle.grove_edits.specs.declared.spelled.SpelledEdge.{SpelledEdge}

-- the vertex that is spelled
abbrev pub spelled_vertex : SpelledVertex → Vertex
spelled_vertex v = record { name = v.name; ctor = spelled_ctor v.ctor }

-- the edge that is spelled
abbrev pub spelled_edge : SpelledEdge → Edge
spelled_edge e = record { name = e.name; source = spelled_vertex e.source; position = e.position; target = spelled_vertex e.target }
