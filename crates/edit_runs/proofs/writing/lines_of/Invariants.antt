use Rattle.std.proofs.Common.{◌≡◌, take}
use Rattle.edit_text.specs.Text.{text_of}
use Rattle.edit_runs.specs.Runs.{joined}
use Rattle.edit_runs.proofs.writing.lines_of.Given as goal

-- the lines of the runs so far
abbrev pub invariant-loop-run : goal.invariant-loop-run
invariant-loop-run l = l.lines.items ≡ text_of (joined (take l.run-index l.runs))
