-- Vertices by number, and which of them were met.
use Rattle.std.specs.Prelude.{◌≡◌, ℕ, Bool, true, List, Some, map, slice_get}
use Rattle.grove_edits.specs.declared.vertex.Vertex.{Vertex}
use Rattle.graph_words.specs.declared.class.Class.TheVariants.{Inner}
use Rattle.graph_words.specs.Class.{class}
use Rattle.graph_table.specs.Table.{Table, live, vertex_at}

-- the vertices of some numbers, in order
abbrev pub vertices_of : Table → List ℕ → List Vertex
vertices_of table numbers = map (vertex_at table) numbers

-- each number that was met is that of a vertex which stands in the tree of another one
abbrev pub OnlyInner : Table → List Bool → Type 0
OnlyInner table met = (n : ℕ) → slice_get met n ≡ Some true → class (live table) (vertex_at table n) ≡ Inner
