use Rattle.std.proofs.Common.{◌≡◌, ◌++◌, drop}
use Rattle.std.specs.List.{flat_map}
use Rattle.edit_ranges.specs.Facts.{facts_of_edit}
use Rattle.edit_ranges.proofs.facts.facts_of.Given as goal

abbrev pub invariant-loop-edit : goal.invariant-loop-edit
invariant-loop-edit l = l.facts.items ++ flat_map facts_of_edit (drop l.edit-index l.edits) ≡ flat_map facts_of_edit l.fn.edits
