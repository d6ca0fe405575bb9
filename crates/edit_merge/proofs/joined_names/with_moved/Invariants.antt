use Rattle.std.proofs.Common.{◌≡◌, ◌++◌, map, drop}
use Rattle.edit_merge.specs.InParts.{moved}
use Rattle.edit_merge.proofs.joined_names.with_moved.Given as goal

abbrev pub invariant-loop-other : goal.invariant-loop-other
invariant-loop-other l = l.all.items ++ map (moved l.by) (drop l.other-index l.others) ≡ l.fn.lines.items ++ map (moved l.by) l.others
