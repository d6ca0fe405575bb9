-- What a stretch of a list has.
use Rattle.std.specs.Prelude.{ℕ, List, slice_range}
use Rattle.grove_edits.specs.declared.edit.Edit.{Edit}
use Rattle.edit_runs.specs.declared.piece.Piece.{Piece}
use Rattle.edit_runs.specs.declared.stretch.Stretch.{Stretch}

abbrev pub edits_in : Stretch → List Edit
edits_in stretch = slice_range stretch.list.now stretch.from stretch.to

-- the piece that hands on a stretch with its place
abbrev pub piece_of : ℕ → Stretch → Piece
piece_of place stretch = record { place = place; edits = edits_in stretch }
