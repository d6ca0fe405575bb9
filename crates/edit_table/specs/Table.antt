-- Edits in order, by their indices, and the vertices that they name, by their numbers.
use Rattle.std.specs.Prelude.{◌≡◌, ◌⊎◌, ℕ, ◌<◌, true, List, Option, Some, None, length, slice_get}
use Rattle.std.specs.List.{Contains, IsDistinct}
use Rattle.grove_sorts.specs.declared.position.Position.TheVariants.{Main}
use Rattle.grove_edits.specs.declared.vertex.Vertex.{Vertex}
use Rattle.grove_edits.specs.declared.edge.Edge.{Edge}
use Rattle.grove_edits.specs.declared.edit.Edit.{Edit}
use Rattle.grove_edits.specs.declared.edit.EditKind.{EditKind}
use Rattle.grove_edits.specs.declared.edit.EditKind.TheVariants.{Insert}
use Rattle.grove_edits.specs.Edit.{edit_edge, edit_kind}
use Rattle.grove_edits.specs.Vertex.{root, is_same_vertex, stands_in}

-- the edits in order, and the vertices in the order of their numbers
pub record Table : Type 0 where
  pub edits : List Edit
  pub vertices : List Vertex

abbrev pub vertex_or_root : Option Vertex → Vertex
vertex_or_root None = root
vertex_or_root (Some v) = v

-- the vertex with a number
abbrev pub vertex_at : Table → ℕ → Vertex
vertex_at table number = vertex_or_root (slice_get table.vertices number)

-- the number is that of a vertex
abbrev pub IsNumber : Table → ℕ → Type 0
IsNumber table number = number < length table.vertices

-- no edge of any graph
abbrev pub no_edge : Edge
no_edge = record { name = record { author = 0; counter = 0 }; source = root; position = Main; target = root }

abbrev pub edge_or_none : Option Edit → Edge
edge_or_none None = no_edge
edge_or_none (Some edit) = edit_edge edit

-- the edge of the edit at an index
abbrev pub edge_at : Table → ℕ → Edge
edge_at table index = edge_or_none (slice_get table.edits index)

abbrev pub kind_or_insert : Option Edit → EditKind
kind_or_insert None = Insert
kind_or_insert (Some edit) = edit_kind edit

-- the kind of the edit at an index
abbrev pub kind_at : Table → ℕ → EditKind
kind_at table index = kind_or_insert (slice_get table.edits index)

-- the index is that of an edit
abbrev pub IsIndex : Table → ℕ → Type 0
IsIndex table index = index < length table.edits

-- the vertex is the root, or an end of an edit of the list
abbrev pub IsEndIn : List Edit → Vertex → Type 0
IsEndIn edits v = (v ≡ root) ⊎ ((edit : Edit) × Contains edits edit × (((edit_edge edit).source ≡ v) ⊎ ((edit_edge edit).target ≡ v)))

-- each of these is a vertex of the edits, none stands twice, and each vertex of the edits is one of them
pub record AreEnds (edits : List Edit) (vertices : List Vertex) : Type 0 where
  pub once : IsDistinct is_same_vertex vertices
  pub each : (v : Vertex) → IsEndIn edits v → stands_in v vertices ≡ true
  pub no_other : (v : Vertex) → stands_in v vertices ≡ true → IsEndIn edits v
