use Rattle.std.proofs.Common.{◌≡◌, ◌++◌, drop, map}
use Rattle.marking.specs.Reading.{bare_nodes}
use Rattle.whole_groves.proofs.erasing.erase_trees.Given as goal

abbrev pub invariant-loop-tree : goal.invariant-loop-tree
invariant-loop-tree l = l.trees ++ map bare_nodes (drop l.tree-index l.tree-items) ≡ map bare_nodes l.tree-items
