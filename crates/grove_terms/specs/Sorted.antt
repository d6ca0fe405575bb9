-- Groves whose trees are well sorted, as those of every graph of edits are.
use Rattle.std.specs.Prelude.{◌≡◌, List, [], ◌∷◌}
use Rattle.grove_edits.specs.declared.vertex.Vertex.{Vertex}
use Rattle.grove_terms.specs.declared.node.Node.{Node}
use Rattle.grove_terms.specs.declared.grove.Grove.{Grove}
use Rattle.grove_terms.specs.Forest.{Forest, IsWellSorted}
use Rattle.grove_terms.specs.Nodes.{tree_nodes}

-- the nodes are those of a well-sorted tree
pub record IsSortedTree (nodes : List Node) : Type 0 where
  pub head : Vertex
  pub forest : Forest
  pub well_sorted : IsWellSorted head forest
  pub listed : nodes ≡ tree_nodes head forest

abbrev pub AreSortedTrees : List (List Node) → Type 0
AreSortedTrees [] = Unit {0}
AreSortedTrees (t ∷ ts) = IsSortedTree t × AreSortedTrees ts

pub record IsSortedGrove (grove : Grove) : Type 0 where
  pub none : AreSortedTrees grove.none
  pub multi : AreSortedTrees grove.multi
  pub cycle : AreSortedTrees grove.cycle
