-- Which lines of an author are cuts of opening edges, and which slots they name.
use Rattle.std.specs.Prelude.{ℕ, ◌+◌, Bool, false, if◌then◌else◌, List, [], ◌∷◌}
use Rattle.std.specs.List.{flat_map, list_any}
use Rattle.std.specs.Ordering.{is_lt, is_le, is_eq}
use Rattle.grove_names.specs.declared.name.Name.{Name}
use Rattle.grove_names.specs.Name.{name_cmp}
use Rattle.grove_edits.specs.declared.action.Action.{Action}
use Rattle.grove_edits.specs.declared.action.Action.TheVariants.{Cut}
use Rattle.grove_edits.specs.declared.edit.Edit.{Edit}
use Rattle.grove_edits.specs.Edit.{edit_edge}

-- the edge of the edit has this name
abbrev pub has_name : Name → Edit → Bool
has_name name edit = is_eq (name_cmp (edit_edge edit).name name)

-- its edge has a name before this one, or up to this one
abbrev pub is_before : Name → Edit → Bool
is_before name edit = is_lt (name_cmp (edit_edge edit).name name)

abbrev pub is_up_to : Name → Edit → Bool
is_up_to name edit = is_le (name_cmp (edit_edge edit).name name)

-- the slots of the edges with this name, where the edge of the first edit has the given slot, and each other edge the next one
abbrev pub slots_from : ℕ → Name → List Edit → List ℕ
slots_from slot name [] = []
slots_from slot name (edit ∷ edits) = if has_name name edit then slot ∷ slots_from (slot + 1) name edits else slots_from (slot + 1) name edits

-- the slots of the opening edges that a line cuts
abbrev pub slots_named : List Edit → Action → List ℕ
slots_named opening (Cut name) = slots_from 0 name opening
slots_named opening _ = []

-- those that all lines cut, in order
abbrev pub slots_cut : List Edit → List Action → List ℕ
slots_cut opening lines = flat_map (slots_named opening) lines

-- the line is a cut that names an opening edge
abbrev pub is_opening_cut : List Edit → Action → Bool
is_opening_cut opening (Cut name) = list_any (has_name name) opening
is_opening_cut opening _ = false
