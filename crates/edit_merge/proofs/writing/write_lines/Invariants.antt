use Rattle.std.proofs.Common.{length}
use Rattle.edit_merge.proofs.Groups.{IsWrittenTo}
use Rattle.edit_merge.proofs.writing.write_lines.Given as goal

abbrev pub invariant-loop-rest : goal.invariant-loop-rest
invariant-loop-rest l = IsWrittenTo l.version l.text l.lines l.rest l.out.items

abbrev pub decreases-loop-rest : goal.decreases-loop-rest
decreases-loop-rest l = length l.rest
