use Rattle.std.proofs.Common.{◌≡◌, ◌+◌, ◌≤◌, length, map, take}
use Rattle.edit_text.specs.Text.{line_of}
use Rattle.edit_journal.specs.LogFile.{longest_file, opened}
use Rattle.edit_journal.proofs.room.length_with.Given as goal

abbrev pub invariant-loop-edit : goal.invariant-loop-edit
invariant-loop-edit l = record {
  so_far : l.length ≡ l.file_length + length (opened (map line_of (take l.edit-index l.edits)));
  short : l.length ≤ longest_file;
}
