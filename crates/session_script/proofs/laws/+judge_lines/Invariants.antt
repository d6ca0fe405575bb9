use Rattle.std.proofs.Common.{length}
use Rattle.session_script.proofs.laws.+judge_lines.Given as goal

abbrev pub decreases-judge_lines : goal.decreases-judge_lines
decreases-judge_lines l = length l.lines.now
