use Rattle.std.proofs.Common.{◌+◌, ◌*◌}
use Rattle.grove_answers.proofs.parts.+fn-report_in_parts-join+arg2+fn-report_in_parts-join+arg3+report_in_parts.Given as goal

-- each part has fewer parts
abbrev pub decreases-join+arg2 : goal.decreases-join+arg2
decreases-join+arg2 g l = l.others + l.others + 1

abbrev pub decreases-join+arg3 : goal.decreases-join+arg3
decreases-join+arg3 g l = l.fewer + l.fewer + 1

abbrev pub decreases-report_in_parts : goal.decreases-report_in_parts
decreases-report_in_parts g l = l.parts + l.parts
