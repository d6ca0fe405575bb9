use Rattle.std.proofs.Common.{◌≡◌, length, take, vec_len, vec_capacity}
use Rattle.edit_merge.specs.EditLine.{AreRead}
use Rattle.edit_merge.proofs.writing.read_group.Given as goal

abbrev pub invariant-loop-line : goal.invariant-loop-line
invariant-loop-line l = record {
  read : AreRead l.version l.text (take l.line-index l.group) l.lines.items;
  count : vec_len l.lines ≡ l.line-index;
  room : vec_capacity l.lines ≡ length l.group;
}
