use Rattle.author_desk.proofs.FirstTurn.{all_lines, all_runs, all_longest, only_turns}
use Rattle.author_desk.proofs.laws.turns_have_each_line_once.Goals as goal

pub returns-clause-lines : goal.returns-clause-lines
returns-clause-lines c opening lines = all_lines opening lines

pub returns-clause-runs : goal.returns-clause-runs
returns-clause-runs c opening lines = all_runs opening lines

pub returns-clause-longest : goal.returns-clause-longest
returns-clause-longest c opening lines = all_longest opening lines

pub returns-clause-only : goal.returns-clause-only
returns-clause-only c opening turns runs longest = only_turns opening turns runs longest
