use Rattle.std.proofs.Common.{◌≡◌, ◌++◌, drop}
use Rattle.grove_terms.specs.Lent.{nodes_of}
use Rattle.mark_tests.proofs.plain_typing_tests.tree_of.Given as goal

abbrev pub invariant-loop-node : goal.invariant-loop-node
invariant-loop-node l = record { pushed : l.tree ++ nodes_of (drop l.node-index l.nodes) ≡ nodes_of l.nodes }
