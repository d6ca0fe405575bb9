use Rattle.std.proofs.Common.{◌≡◌, ◌++◌, drop}
use Rattle.grove_terms.specs.Lent.{nodes_of}
use Rattle.whole_groves.proofs.erasing.erase_tree.Given as goal

abbrev pub invariant-loop-node : goal.invariant-loop-node
invariant-loop-node l = l.tree ++ nodes_of (drop l.node-index l.node-items) ≡ nodes_of l.node-items
