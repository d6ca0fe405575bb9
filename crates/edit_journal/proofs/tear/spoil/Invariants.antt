use Rattle.std.proofs.Common.{◌≡◌, ◌≤◌, take, drop, vec_len, vec_capacity}
use Rattle.edit_journal.proofs.tear.spoil.Given as goal

abbrev pub invariant-loop-place : goal.invariant-loop-place
invariant-loop-place l = record {
  before : take l.start l.file.items ≡ take l.start l.fn.file.items;
  behind : drop l.end l.file.items ≡ drop l.end l.fn.file.items;
  same_length : vec_len l.file ≡ vec_len l.fn.file;
  capacity : vec_capacity l.fn.file ≤ vec_capacity l.file;
}
