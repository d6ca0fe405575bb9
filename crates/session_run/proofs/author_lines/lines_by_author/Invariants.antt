use Rattle.std.proofs.Common.{◌≡◌, drop, map}
use Rattle.session_run.specs.Workers.{told, told_in, first_calls_told}
use Rattle.session_run.proofs.Grouped.{behind}
use Rattle.session_run.proofs.author_lines.lines_by_author.Given as goal

-- what each author has so far and its actions in the lines that are left are its actions in all
abbrev pub invariant-loop-line : goal.invariant-loop-line
invariant-loop-line l =
    (map (behind (drop l.line-index l.lines)) (map told l.all.items) ≡ map (told_in l.lines) l.authors) × (first_calls_told l.all.items ≡ l.first_calls)
