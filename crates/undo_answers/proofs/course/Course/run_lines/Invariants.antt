use Rattle.std.proofs.Common.{take}
use Rattle.undo_answers.specs.Course.{Course, after_lines}
use Rattle.undo_answers.specs.Kept.{StandsFor}
use Rattle.undo_answers.proofs.course.Course.run_lines.Given as goal

abbrev pub invariant-loop-line : goal.invariant-loop-line
invariant-loop-line l = (before : Course) → StandsFor l.fn.self before → StandsFor l.self (after_lines l.author (take l.line-index l.lines) before)
