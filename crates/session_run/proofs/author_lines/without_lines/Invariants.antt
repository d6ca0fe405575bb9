use Rattle.std.proofs.Common.{◌≡◌, [], ◌++◌, map, length, take, drop}
use Rattle.session_run.specs.Workers.{told, first_calls_told}
use Rattle.session_run.proofs.author_lines.without_lines.Given as goal

abbrev pub invariant-loop-declared : goal.invariant-loop-declared
invariant-loop-declared l =
    record {
      lines : map told l.all.items ++ map (λ declared. (declared, [])) (drop l.declared-index l.declared-items) ≡ map (λ declared. (declared, [])) l.authors;
      count : length l.all.items ≡ l.declared-index;
      first_calls : first_calls_told l.all.items ≡ take l.declared-index l.first_calls;
    }
