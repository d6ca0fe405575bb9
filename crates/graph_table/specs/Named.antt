-- Inner model, which no public contract cites: vertices of a table, listed with their numbers.
use Rattle.std.specs.Prelude.{◌≡◌, ℕ, List, map}
use Rattle.grove_edits.specs.declared.vertex.Vertex.{Vertex}
use Rattle.edit_table.specs.Lent.{lent_vertex}
use Rattle.graph_table.specs.declared.named_vertex.NamedVertex.{NamedVertex}
use Rattle.graph_table.specs.Table.{Table, vertex_at, IsNumber}

abbrev pub vertices_of : List NamedVertex → List Vertex
vertices_of list = map (λ n. lent_vertex n.vertex) list

abbrev pub numbers_of : List NamedVertex → List ℕ
numbers_of list = map (λ n. n.number) list

-- a vertex of the table, with its number
pub record IsNamed (table : Table) (n : NamedVertex) : Type 0 where
  pub number : IsNumber table n.number
  pub vertex : vertex_at table n.number ≡ lent_vertex n.vertex
