use Rattle.std.proofs.Common.{◌≡◌, ◌+◌, drop}
use Rattle.edit_merge.specs.Named.{group_length}
use Rattle.edit_merge.proofs.writing.group_length.Given as goal

abbrev pub invariant-loop-i : goal.invariant-loop-i
invariant-loop-i l = l.i + group_length l.name (drop l.i l.lines) ≡ group_length l.name l.lines
