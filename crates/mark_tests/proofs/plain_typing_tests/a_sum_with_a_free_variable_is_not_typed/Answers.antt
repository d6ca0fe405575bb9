use Rattle.grove_terms.specs.Lent.{node_of}
use Rattle.mark_tests.proofs.Samples.{sum, with_variable, variable_sorted, two_under}
use Rattle.mark_tests.proofs.plain_typing_tests.a_sum_with_a_free_variable_is_not_typed.Goals as goal

pub is_tree_typed-requires : goal.is_tree_typed-requires
is_tree_typed-requires g c =
    let x = c.in_ok-read_ident.field-0 in
    let listed =
    two_under c.in_ok-tree.tree (node_of c.head.result) (node_of c.child.result) (node_of c.child-2.result) _ _ _ c.in_ok-tree.ensures c.head.ensures c.child.ensures c.child-2.ensures in
    record { sorted = record { head = sum; forest = with_variable x; well_sorted = variable_sorted x; listed = listed } }
