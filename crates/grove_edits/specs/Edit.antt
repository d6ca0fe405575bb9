-- What an edit does, and to which edge.
-- The promise of the commands rests on these definitions.
use Rattle.std.specs.Prelude.{ℕ}
use Rattle.std.specs.declared.cmp.Ordering.{Ordering}
use Rattle.std.specs.Ordering.{nat_cmp, ordering_then}
use Rattle.grove_edits.specs.declared.edge.Edge.{Edge}
use Rattle.grove_edits.specs.declared.edit.Edit.{Edit}
use Rattle.grove_edits.specs.declared.edit.EditKind.{EditKind}
use Rattle.grove_edits.specs.declared.edit.EditKind.TheVariants.{Insert, Delete}
use Rattle.grove_edits.specs.Edge.{edge_cmp, edge_from}

abbrev pub edit_edge : Edit → Edge
edit_edge edit = edge_from edit.name edit.source edit.branch edit.position edit.target

abbrev pub edit_kind : Edit → EditKind
edit_kind edit = edit.kind

abbrev pub kind_number : EditKind → ℕ
kind_number Insert = 0
kind_number Delete = 1

-- edits are ordered by edge, and an insertion comes before a deletion
abbrev pub edit_cmp : Edit → Edit → Ordering
edit_cmp a b = ordering_then (edge_cmp (edit_edge a) (edit_edge b)) (nat_cmp (kind_number (edit_kind a)) (kind_number (edit_kind b)))
