use Rattle.std.proofs.Common.{◌≡◌, ◌++◌, drop}
use Rattle.grove_terms.specs.Lent.{nodes_of}
use Rattle.infer_answers.specs.Texts.{hole_lines}
use Rattle.infer_answers.proofs.answer.append_holes.Given as goal

abbrev pub invariant-loop-line : goal.invariant-loop-line
invariant-loop-line l = l.out.items ++ hole_lines l.solution (drop l.line (nodes_of l.nodes)) l.line ≡ l.initial.out.items ++ hole_lines l.solution (nodes_of l.nodes) 0
