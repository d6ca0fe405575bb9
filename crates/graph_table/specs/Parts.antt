-- Inner model, which no public contract cites: what the parts of a graph by numbers are.
use Rattle.std.specs.Prelude.{◌≡◌, ◌<◌, ◌^◌, ℕ, List, Some, length, map, slice_get}
use Rattle.grove_edits.specs.Graph.{Ascends}
use Rattle.graph_table.specs.declared.link.Link.{Link}
use Rattle.graph_table.specs.Table.{Table, vertex_at, edge_at, IsNumber}
use Rattle.graph_table.specs.Around.{Ends, neighbours}
use Rattle.graph_table.specs.Chain.{AreAround}

-- the number is that of the vertex to which the edge of the edit at an index leads
abbrev pub IsTarget : Table → ℕ → ℕ → Type 0
IsTarget table index number = IsNumber table number × (vertex_at table number ≡ (edge_at table index).target)

-- the link tells the edge of the edit at an index, but for its source
pub record TellsEdge (table : Table) (index : ℕ) (link : Link) : Type 0 where
  pub name : link.name ≡ (edge_at table index).name
  pub position : link.position ≡ (edge_at table index).position
  pub target : IsTarget table index link.target

-- the link at each index tells the edge there
abbrev pub TellEdges : Table → List Link → Type 0
TellEdges table links = (index : ℕ) (link : Link) → slice_get links index ≡ Some link → TellsEdge table index link

-- each edit has a link, and an index fits 32 bits
pub record AreLinks (table : Table) (links : List Link) : Type 0 where
  pub count : length links ≡ length table.edits
  pub few : length table.edits < 2 ^ 32
  pub edges : TellEdges table links

-- the edits of a table ascend, and its links tell what is around each vertex
pub record IsGraph (table : Table) (links : List Link) (around : List Ends) : Type 0 where
  pub in_order : Ascends table.edits
  pub links_are : AreLinks table links
  pub kept : AreAround links around (map (neighbours table.edits) table.vertices)
