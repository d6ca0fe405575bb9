use Rattle.std.proofs.Common.{◌≡◌, ◌++◌, drop}
use Rattle.session_answers.specs.Numbers.{numbers_behind}
use Rattle.session_answers.proofs.counting.count_lines.Given as goal

-- the numbers so far, and those of the authors that are left, are all numbers
abbrev pub invariant-loop-index : goal.invariant-loop-index
invariant-loop-index l = l.behind.items ++ numbers_behind l.lines (drop l.index l.authors) (drop l.index l.calls) ≡ numbers_behind l.lines l.authors l.calls
