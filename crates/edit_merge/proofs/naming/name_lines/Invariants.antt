use Rattle.std.proofs.Common.{length}
use Rattle.edit_merge.proofs.NamedLines.{AreNamedTo}
use Rattle.edit_merge.proofs.naming.name_lines.Given as goal

abbrev pub invariant-loop-line : goal.invariant-loop-line
invariant-loop-line l = AreNamedTo l.version l.text l.rest l.lines.items

abbrev pub decreases-loop-line : goal.decreases-loop-line
decreases-loop-line l = length l.rest
