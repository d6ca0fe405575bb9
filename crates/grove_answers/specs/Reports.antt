-- What a report takes in of the trees of a graph, one after the other: `begins` says what the heading of a list of so many trees makes
-- of it, and `takes` what some trees with their markings do.
use Rattle.std.specs.Prelude.{ℕ, List, length}
use Rattle.grove_edits.specs.declared.vertex.Vertex.{Vertex}
use Rattle.grove_edits.specs.declared.edge.Edge.{Edge}
use Rattle.grove_edits.specs.Graph.{Graph}
use Rattle.grove_terms.specs.declared.node.Node.{Node}
use Rattle.grove_terms.specs.declared.grove.Grove.{Grove}
use Rattle.grove_terms.specs.Grove.{IsGrove, AreTreesOf}
use Rattle.marking.specs.Marking.{MarkedNode}
use Rattle.marking.specs.Grove.{MarkedTrees, AreMarkedTrees, IsMarkedGrove}
use Rattle.grove_printer.specs.declared.section.Section.{Section}
use Rattle.grove_printer.specs.declared.section.Section.TheVariants.{NoParent, Multi, Cycle}

-- the trees of these vertices, marked, were taken in
pub record AreReported {R : Type 0} (takes : R → List (List Node) → List (List MarkedNode) → R → Type 0) (live : List Edge) (vs : List Vertex) (before after : R) : Type 0 where
  pub trees : List (List Node)
  pub marked : List (List MarkedNode)
  pub are_trees : AreTreesOf live vs trees
  pub are_marked : AreMarkedTrees trees marked
  pub taken : takes before trees marked after

-- a heading, and these trees
pub record TakesSection {R : Type 0} (begins : R → Section → ℕ → R → Type 0) (takes : R → List (List Node) → List (List MarkedNode) → R → Type 0) (section : Section)
    (before : R) (trees : List (List Node)) (marked : List (List MarkedNode)) (after : R) : Type 0 where
  pub begun : R
  pub begin : begins before section (length trees) begun
  pub taken : takes begun trees marked after

-- the marked grove of the graph was taken in
pub record IsReported {R : Type 0} (begins : R → Section → ℕ → R → Type 0) (takes : R → List (List Node) → List (List MarkedNode) → R → Type 0) (g : Graph) (before after : R) : Type 0 where
  pub grove : Grove
  pub marked : MarkedTrees
  pub is_grove : IsGrove g grove
  pub is_marked : IsMarkedGrove grove marked
  pub after_none : R
  pub after_multi : R
  pub none : TakesSection begins takes NoParent before grove.none marked.none after_none
  pub multi : TakesSection begins takes Multi after_none grove.multi marked.multi after_multi
  pub cycle : TakesSection begins takes Cycle after_multi grove.cycle marked.cycle after
