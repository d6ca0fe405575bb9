-- Inner model, which no public contract cites: the edits that records stand for, whose ends are told by their numbers.
use Rattle.std.specs.Prelude.{◌≡◌, ℕ, ◌<◌, ◌^◌, true, List, map, length, slice_index_or}
use Rattle.std.specs.List.{AllByRecursion, IsDistinct}
use Rattle.std.specs.declared.cmp.Ordering.{Ordering}
use Rattle.std.specs.Ordering.{nat_cmp, ordering_then}
use Rattle.std.specs.List.Sorted.{IsSorted}
use Rattle.grove_sorts.specs.declared.ctor.Ctor.{Ctor}
use Rattle.grove_edits.specs.declared.vertex.Vertex.{Vertex}
use Rattle.grove_edits.specs.declared.edge.Edge.{Edge}
use Rattle.grove_edits.specs.declared.edit.Edit.{Edit}
use Rattle.grove_edits.specs.Vertex.{root, is_same_vertex}
use Rattle.grove_edits.specs.Edge.{edge_cmp}
use Rattle.grove_edits.specs.Edit.{kind_number}
use Rattle.edit_table.specs.declared.vertex_key.VertexKey.{VertexKey}
use Rattle.edit_table.specs.declared.record.Record.{Record}
use Rattle.edit_table.specs.Made.{is_good, made}
use Rattle.edit_table.specs.Keys.{vertices_of, AreKeys}
use Rattle.edit_table.specs.Table.{Table, AreEnds}

-- the vertex with a number
abbrev pub numbered : List Vertex → ℕ → Vertex
numbered vertices n = slice_index_or vertices n root

-- the edge that a record stands for, by the vertices with their numbers
abbrev pub edge_of : List Vertex → Record → Edge
edge_of vertices r = record { name = r.name; source = numbered vertices r.source; position = r.position; target = numbered vertices r.target }

-- the edit that a record stands for
abbrev pub edit_of : List Vertex → Record → Edit
edit_of vertices r = made r.kind (edge_of vertices r)

-- the edits that records stand for, in order
abbrev pub edits_of : List Vertex → List Record → List Edit
edits_of vertices records = map (edit_of vertices) records

-- both ends of a record have numbers, and it stands for an edit
pub record IsRecord (vertices : List Vertex) (r : Record) : Type 0 where
  pub source_is : r.source < length vertices
  pub target_is : r.target < length vertices
  pub good : is_good (edge_of vertices r) ≡ true

-- the vertices differ, and the records are of them
pub record AreOf (vertices : List Vertex) (records : List Record) : Type 0 where
  pub once : IsDistinct is_same_vertex vertices
  pub each : AllByRecursion (IsRecord vertices) records

-- constructors, keys of vertices and records of edits go together
pub record AreRecords (ctors : List Ctor) (keys : List VertexKey) (records : List Record) : Type 0 where
  pub keys_are : AreKeys ctors keys
  pub records_are : AreOf (vertices_of ctors keys) records
  pub few : length records < 2 ^ 32
  pub ends : AreEnds (edits_of (vertices_of ctors keys) records) (vertices_of ctors keys)

-- the table that they stand for
abbrev pub table_of : List Ctor → List VertexKey → List Record → Table
table_of ctors keys records = record { edits = edits_of (vertices_of ctors keys) records; vertices = vertices_of ctors keys }

-- records are ordered as the edits that they stand for
abbrev pub record_cmp : List Vertex → Record → Record → Ordering
record_cmp vertices a b = ordering_then (edge_cmp (edge_of vertices a) (edge_of vertices b)) (nat_cmp (kind_number a.kind) (kind_number b.kind))

-- the records are of these vertices, and in order
abbrev pub AreInOrder : List Vertex → List Record → Type 0
AreInOrder vertices records = AreOf vertices records × IsSorted (record_cmp vertices) records

-- the records have one edge, by its parts
abbrev pub HaveSameParts : Record → Record → Type 0
HaveSameParts a b = (a.name ≡ b.name) × (a.source ≡ b.source) × (a.position ≡ b.position) × (a.target ≡ b.target)
