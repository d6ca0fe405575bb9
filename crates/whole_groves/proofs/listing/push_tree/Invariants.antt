use Rattle.std.proofs.Common.{◌≡◌, ◌++◌, drop}
use Rattle.grove_terms.specs.Nodes.{node_edges}
use Rattle.grove_terms.specs.Lent.{nodes_of}
use Rattle.whole_groves.proofs.listing.push_tree.Given as goal

abbrev pub invariant-loop-node : goal.invariant-loop-node
invariant-loop-node l = l.edges ++ node_edges (nodes_of (drop l.node-index l.node-items)) ≡ l.initial.edges ++ node_edges (nodes_of l.node-items)
