-- Edits as plain data, and those that each action makes.
-- The promise of the commands rests on these definitions.
use Rattle.std.specs.Prelude.{ℕ, ◌+◌, List, [], ◌∷◌, ◌++◌, map, Option, None, Some}
use Rattle.grove_names.specs.declared.name.Name.{Name}
use Rattle.grove_sorts.specs.declared.position.Position.{Position}
use Rattle.grove_sorts.specs.declared.ctor.Ctor.{Ctor}
use Rattle.grove_edits.specs.declared.vertex.Vertex.{Vertex}
use Rattle.grove_edits.specs.declared.edge.Edge.{Edge}
use Rattle.grove_edits.specs.declared.edit.Edit.{Edit}
use Rattle.grove_edits.specs.declared.edit.EditKind.{EditKind}
use Rattle.grove_edits.specs.declared.edit.EditKind.TheVariants.{Insert, Delete}
use Rattle.grove_edits.specs.Edit.{edit_edge, edit_kind}
use Rattle.grove_edits.specs.declared.action.Place.{Place}
use Rattle.user_actions.specs.Names.{new_name}
use Rattle.user_actions.specs.Carried.{carried}

abbrev pub PlainEdit : Type 0
PlainEdit = EditKind × Edge

abbrev pub plain : Edit → PlainEdit
plain edit = (edit_kind edit, edit_edge edit)

abbrev pub deletion : Edge → PlainEdit
deletion e = (Delete, e)

abbrev pub deletions : List Edge → List PlainEdit
deletions edges = map deletion edges

-- the insertion of an edge with this name from a position of a vertex
abbrev pub insertion : Name → Vertex → Position → Vertex → PlainEdit
insertion name source position target = (Insert, record { name = name; source = source; position = position; target = target })

-- the author's first new name is that of the new vertex
abbrev pub new_vertex : ℕ → ℕ → Ctor → Vertex
new_vertex author greatest ctor = record { name = new_name author greatest 1; ctor = ctor }

-- the second is that of the edge that leads to it from the place
abbrev pub to_new_vertex : ℕ → ℕ → Ctor → Vertex → Place → PlainEdit
to_new_vertex author greatest ctor v place = insertion (new_name author greatest 2) v place.position (new_vertex author greatest ctor)

-- edges from a position of a vertex to the targets of these, with new names from a number on
abbrev pub put_below : ℕ → ℕ → Vertex → Position → ℕ → List Edge → List PlainEdit
put_below author greatest v position number [] = []
put_below author greatest v position number (e ∷ es) =
    insertion (new_name author greatest number) v position e.target ∷ put_below author greatest v position (number + 1) es

-- each of these edges is deleted, and one from the same position of another vertex to its target is inserted, with new names from a
-- number on
abbrev pub carry_over : ℕ → ℕ → Vertex → ℕ → List Edge → List PlainEdit
carry_over author greatest v number [] = []
carry_over author greatest v number (e ∷ es) =
    deletion e ∷ insertion (new_name author greatest number) v e.position e.target ∷ carry_over author greatest v (number + 1) es

abbrev pub wrap_edits : ℕ → ℕ → Ctor → Vertex → Place → Option Position → List Edge → List PlainEdit
wrap_edits author greatest ctor v place None edges = []
wrap_edits author greatest ctor v place (Some position) edges =
    deletions edges ++ to_new_vertex author greatest ctor v place ∷ put_below author greatest (new_vertex author greatest ctor) position 3 edges

abbrev pub become_edits : ℕ → ℕ → Ctor → Vertex → Place → List Edge → List Edge → List PlainEdit
become_edits author greatest ctor v place [] live = []
become_edits author greatest ctor v place (e ∷ _) live =
    deletion e ∷ to_new_vertex author greatest ctor v place ∷ carry_over author greatest (new_vertex author greatest ctor) 3 (carried ctor e live)

abbrev pub relocate_edits : ℕ → ℕ → Vertex → Place → List Edge → List PlainEdit
relocate_edits author greatest v place [] = []
relocate_edits author greatest v place (e ∷ _) = deletion e ∷ insertion (new_name author greatest 1) v place.position e.target ∷ []
