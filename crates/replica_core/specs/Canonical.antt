-- Canonical lists with further edits.
use Rattle.std.specs.Prelude.{List, [], ◌∷◌}
use Rattle.std.specs.Ordering.{match_ordering}
use Rattle.grove_edits.specs.declared.edit.Edit.{Edit}
use Rattle.grove_edits.specs.declared.edit.EditKind.{EditKind}
use Rattle.grove_edits.specs.declared.edit.EditKind.TheVariants.{Insert, Delete}
use Rattle.grove_edits.specs.Edge.{edge_cmp}
use Rattle.grove_edits.specs.Edit.{edit_edge, edit_kind}

abbrev pub unless_deletion : EditKind → Edit → Edit → Edit
unless_deletion Insert edit other = other
unless_deletion Delete edit other = edit

-- of two edits of one edge, the one that asks more: a deletion, if either is one
abbrev pub greater : Edit → Edit → Edit
greater a b = unless_deletion (edit_kind a) a b

-- the list with one more edit: at its place, or in one with the edit of the same edge
abbrev pub with_edit : Edit → List Edit → List Edit
with_edit edit [] = edit ∷ []
with_edit edit (x ∷ xs) =
    match_ordering (edge_cmp (edit_edge edit) (edit_edge x)) (edit ∷ x ∷ xs) (greater edit x ∷ xs) (x ∷ with_edit edit xs)

-- the list with further edits, one after the other
abbrev pub with_edits : List Edit → List Edit → List Edit
with_edits [] xs = xs
with_edits (edit ∷ edits) xs = with_edits edits (with_edit edit xs)
