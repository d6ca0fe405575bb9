-- Inner model, which no public contract cites: the live edges around each vertex, by their indices, and how the code gathers them.
use Rattle.std.specs.Prelude.{ℕ, suc, ◌+◌, Bool, ◌&&◌, List, [], ◌∷◌, set, if◌then◌else◌}
use Rattle.std.specs.List.{slice_index_or}
use Rattle.grove_names.specs.declared.name.Name.{Name}
use Rattle.grove_sorts.specs.declared.position.Position.{Position}
use Rattle.grove_edits.specs.declared.vertex.Vertex.{Vertex}
use Rattle.grove_edits.specs.declared.edge.Edge.{Edge}
use Rattle.grove_edits.specs.declared.edit.Edit.{Edit}
use Rattle.grove_edits.specs.declared.edit.EditKind.{EditKind}
use Rattle.grove_edits.specs.Edit.{edit_edge, edit_kind}
use Rattle.grove_edits.specs.Vertex.{is_same_vertex}
use Rattle.grove_sorts.specs.Position.{is_same_position}
use Rattle.graph_table.specs.declared.link.Link.{Link}
use Rattle.graph_table.specs.declared.narrow_parents.NarrowParents.{NarrowParents}
use Rattle.graph_table.specs.declared.narrow_parents.NarrowParents.TheVariants as narrow
use Rattle.graph_table.specs.declared.parents.Parents.{Parents}
use Rattle.graph_table.specs.declared.parents.Parents.TheVariants.{Zero, One, More}
use Rattle.graph_table.specs.Table.{is_insertion}

-- a live edge from a vertex: its position, and its index
pub record Child : Type 0 where
  pub position : Position
  pub index : ℕ

-- the live edges from a vertex, in edge order, and the least two to it
pub record Neighbours : Type 0 where
  pub children : List Child
  pub parents : Parents

abbrev pub no_neighbours : Neighbours
no_neighbours = record { children = []; parents = Zero }

abbrev pub with_parent : Parents → ℕ → Parents
with_parent Zero index = One index
with_parent (One first) index = More first index
with_parent (More first second) index = More first second

-- one more than the index of the last live edge from a vertex, or zero where there is none, and the least two to it
pub record Ends : Type 0 where
  pub last : ℕ
  pub parents : Parents

abbrev pub no_ends : Ends
no_ends = record { last = 0; parents = Zero }

abbrev pub told : NarrowParents → Parents
told narrow.Zero = Zero
told (narrow.One first) = One first
told (narrow.More first second) = More first second

abbrev pub first_indices : List ℕ → Parents
first_indices [] = Zero
first_indices (i ∷ []) = One i
first_indices (i ∷ j ∷ _) = More i j

abbrev pub child : ℕ → Edge → Child
child index edge = record { position = edge.position; index = index }

-- the children that have a position, by their indices
abbrev pub indices_at : Position → List Child → List ℕ
indices_at position [] = []
indices_at position (c ∷ cs) = if is_same_position c.position position then (c.index ∷ indices_at position cs) else indices_at position cs

-- the edit inserts an edge from the vertex
abbrev pub leads_from : Vertex → Edit → Bool
leads_from v edit = is_insertion (edit_kind edit) && is_same_vertex (edit_edge edit).source v

-- the edit inserts an edge to the vertex
abbrev pub leads_to : Vertex → Edit → Bool
leads_to v edit = is_insertion (edit_kind edit) && is_same_vertex (edit_edge edit).target v

-- the insertions of edges from the vertex, of edits whose indices begin with a number
abbrev pub children_from : ℕ → Vertex → List Edit → List Child
children_from index v [] = []
children_from index v (edit ∷ edits) = if leads_from v edit then (child index (edit_edge edit) ∷ children_from (suc index) v edits) else children_from (suc index) v edits

-- the indices of the insertions of edges to the vertex, of edits whose indices begin with a number
abbrev pub parents_from : ℕ → Vertex → List Edit → List ℕ
parents_from index v [] = []
parents_from index v (edit ∷ edits) = if leads_to v edit then (index ∷ parents_from (suc index) v edits) else parents_from (suc index) v edits

abbrev pub neighbours : List Edit → Vertex → Neighbours
neighbours edits v = record { children = children_from 0 v edits; parents = first_indices (parents_from 0 v edits) }

abbrev pub ends_at : List Ends → ℕ → Ends
ends_at ends number = slice_index_or ends number no_ends

-- the last live edge from the vertex with a number is that with an index
abbrev pub with_last_at : ℕ → ℕ → List Ends → List Ends
with_last_at number index ends = set ends number (record { last = index + 1; parents = (ends_at ends number).parents })

-- the vertex with a number has one more parent
abbrev pub with_parent_at : ℕ → ℕ → List Ends → List Ends
with_parent_at number index ends = set ends number (record { last = (ends_at ends number).last; parents = with_parent (ends_at ends number).parents index })

-- what is kept of the vertices after an edit of a kind with an index, whose ends have these numbers
abbrev pub ends_noted : ℕ → EditKind → ℕ → ℕ → List Ends → List Ends
ends_noted index kind source target ends = if is_insertion kind then with_parent_at target index (with_last_at source index ends) else ends

-- the link of an edit of an edge with this name and position, whose ends have these numbers
abbrev pub link_of : Name → Position → ℕ → ℕ → List Ends → Link
link_of name position source target ends = record { name = name; position = position; target = target; before = (ends_at ends source).last }
