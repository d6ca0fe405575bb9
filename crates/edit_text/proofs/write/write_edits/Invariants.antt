use Rattle.std.proofs.Common.{◌≡◌, ◌++◌, length, take}
use Rattle.edit_text.specs.Text.{text_of}
use Rattle.edit_text.proofs.write.write_edits.Given as goal

abbrev pub invariant-loop-edit : goal.invariant-loop-edit
invariant-loop-edit l = record {
  written : l.out.items ≡ l.fn.out.items ++ text_of (take l.edit-index l.edits);
  start : l.start ≡ length l.fn.out.items;
}
