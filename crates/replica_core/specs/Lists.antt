-- What an action sees of the graph of a canonical list.
use Rattle.std.specs.Prelude.{Bool, true, false, List, [], ◌∷◌, map, filter}
use Rattle.std.specs.BTreeSet.{insert_key}
use Rattle.grove_edits.specs.declared.vertex.Vertex.{Vertex}
use Rattle.grove_edits.specs.declared.edit.Edit.{Edit}
use Rattle.grove_edits.specs.declared.edit.EditKind.{EditKind}
use Rattle.grove_edits.specs.declared.edit.EditKind.TheVariants.{Insert, Delete}
use Rattle.grove_edits.specs.Vertex.{root, vertex_cmp}
use Rattle.grove_edits.specs.Edit.{edit_edge, edit_kind}
use Rattle.user_actions.specs.Lists.{GraphLists}

abbrev pub is_insert : EditKind → Bool
is_insert Insert = true
is_insert Delete = false

abbrev pub is_insertion : Edit → Bool
is_insertion edit = is_insert (edit_kind edit)

-- the root and the ends of the edges, in vertex order
abbrev pub vertices_of : List Edit → List Vertex
vertices_of [] = root ∷ []
vertices_of (edit ∷ edits) = insert_key vertex_cmp (insert_key vertex_cmp (vertices_of edits) (edit_edge edit).target) (edit_edge edit).source

abbrev pub lists_of : List Edit → GraphLists
lists_of edits = record {
  vertices = vertices_of edits;
  present = map edit_edge edits;
  live = map edit_edge (filter is_insertion edits);
}
