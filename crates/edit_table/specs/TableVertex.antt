-- The vertex that a table lends.
use Rattle.grove_edits.specs.declared.vertex.Vertex.{Vertex}
use Rattle.edit_table.specs.declared.table_vertex.TableVertex.{TableVertex}
use Rattle.edit_table.specs.Table.{vertex_at}

abbrev pub table_vertex : TableVertex → Vertex
table_vertex v = vertex_at v.table.now v.number
