use Rattle.grove_terms.specs.Lent.{node_of}
use Rattle.mark_tests.proofs.Samples.{sum, numbers, numbers_sorted, two_under}
use Rattle.mark_tests.proofs.plain_typing_tests.a_sum_of_numbers_is_typed.Goals as goal

pub is_tree_typed-requires : goal.is_tree_typed-requires
is_tree_typed-requires g c =
    let listed =
    two_under c.in_ok-tree.tree (node_of c.head.result) (node_of c.child.result) (node_of c.child-2.result) _ _ _ c.in_ok-tree.ensures c.head.ensures c.child.ensures c.child-2.ensures in
    record { sorted = record { head = sum; forest = numbers; well_sorted = numbers_sorted; listed = listed } }
