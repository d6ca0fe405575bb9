use Rattle.std.proofs.Common.{◌≡◌, ◌++◌, drop}
use Rattle.grove_terms.specs.Grove.{trees_edges}
use Rattle.whole_groves.proofs.listing.push_trees.Given as goal

abbrev pub invariant-loop-tree : goal.invariant-loop-tree
invariant-loop-tree l = l.edges ++ trees_edges (drop l.tree-index l.trees) ≡ l.initial.edges ++ trees_edges l.trees
