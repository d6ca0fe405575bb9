use Rattle.std.proofs.Common.{drop}
use Rattle.session_answers.proofs.Numbers.{Fit}
use Rattle.session_answers.proofs.counting.can_number.Given as goal

-- all fit, if those that are left do
abbrev pub invariant-loop-first : goal.invariant-loop-first
invariant-loop-first l = Fit l.lines (drop l.first-index l.calls) → Fit l.lines l.calls
