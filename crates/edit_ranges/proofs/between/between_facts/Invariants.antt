use Rattle.std.proofs.Common.{◌≡◌, ◌++◌, length}
use Rattle.edit_ranges.specs.Facts.{between_facts}
use Rattle.edit_ranges.proofs.between.between_facts.Given as goal

abbrev pub invariant-loop-rest : goal.invariant-loop-rest
invariant-loop-rest l = l.facts.items ++ between_facts l.fn.shared l.rest ≡ between_facts l.fn.shared l.fn.edits

abbrev pub decreases-loop-rest : goal.decreases-loop-rest
decreases-loop-rest l = length l.rest
