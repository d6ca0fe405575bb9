use Rattle.std.proofs.Common.{◌≡◌, map, take}
use Rattle.edit_text.specs.Text.{line_of}
use Rattle.edit_journal.specs.LogFile.{opened}
use Rattle.edit_journal.proofs.writing.write_piece.Given as goal

abbrev pub invariant-loop-edit : goal.invariant-loop-edit
invariant-loop-edit l = l.piece.items ≡ opened (map line_of (take l.edit-index l.edits))
