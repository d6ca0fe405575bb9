use Rattle.std.proofs.Common.{◌≡◌, ◌++◌, length}
use Rattle.edit_ranges.specs.Facts.{shared_facts}
use Rattle.edit_ranges.proofs.facts.shared_facts.Given as goal

abbrev pub invariant-loop-rest : goal.invariant-loop-rest
invariant-loop-rest l = l.facts.items ++ shared_facts l.rest ≡ shared_facts l.fn.edits

abbrev pub decreases-loop-rest : goal.decreases-loop-rest
decreases-loop-rest l = length l.rest
