use Rattle.judging.proofs.Running.{tree_marked}
use Rattle.judging.proofs.laws.taking_all_nodes_marks_the_tree.Goals as goal

pub returns : goal.returns
returns c = tree_marked
