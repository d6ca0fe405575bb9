use Rattle.std.proofs.Common.{◌≡◌, ◌++◌, drop}
use Rattle.session_run.specs.Calls.{sends_of}
use Rattle.session_run.proofs.author_lines.sends_in.Given as goal

abbrev pub invariant-loop-line : goal.invariant-loop-line
invariant-loop-line l = l.sends.items ++ sends_of (drop l.line-index l.lines) ≡ sends_of l.lines
