use Rattle.grove_terms.proofs.OneList.{one_tree}
use Rattle.grove_terms.proofs.laws.a_list_is_one_tree.Goals as goal

pub returns : goal.returns
returns c = one_tree
