use Rattle.grove_printer.proofs.Extending.{extends_further}
use Rattle.grove_sorts.proofs.Truths.{after_error}
use Rattle.whole_groves.proofs.marked_lines.append_of_trees.Goals as goal

pub returns-in_err-append_marked_lines_of-clause-in_part : goal.returns-in_err-append_marked_lines_of-clause-in_part
returns-in_err-append_marked_lines_of-clause-in_part c = after_error c.from_residual.result (extends_further _ _ _ c.loop-tree.invariant.front c.in_err-append_marked_lines_of.ensures.in_part)
