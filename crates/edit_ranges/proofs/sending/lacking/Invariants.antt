use Rattle.std.proofs.Common.{◌≡◌, ◌++◌, drop}
use Rattle.edit_ranges.specs.Lacking.{lacking}
use Rattle.edit_ranges.proofs.sending.lacking.Given as goal

abbrev pub invariant-loop-edit : goal.invariant-loop-edit
invariant-loop-edit l = l.list ++ lacking l.other (drop l.edit-index l.edits) ≡ lacking l.fn.other l.fn.edits
