-- Trees of a graph for whose vertices marks are kept.
use Rattle.std.specs.Prelude.{◌≡◌, ℕ, List, ◌++◌}
use Rattle.grove_edits.specs.declared.vertex.Vertex.{Vertex}
use Rattle.grove_edits.specs.declared.edge.Edge.{Edge}
use Rattle.grove_edits.specs.Graph.{Graph, graph}
use Rattle.graph_words.specs.declared.class.Class.TheVariants.{Inner}
use Rattle.graph_words.specs.Class.{class}
use Rattle.graph_words.specs.Whole.{IsVertexOf, AreLive}
use Rattle.grove_terms.specs.declared.node.Node.{Node}
use Rattle.grove_terms.specs.Grove.{IsTreeOf}
use Rattle.graph_table.specs.Table.{Table, vertex_at}
use Rattle.marking.specs.Marking.{MarkedNode}
use Rattle.marking.specs.Grove.{IsMarkedTree}
use Rattle.grove_printer.specs.declared.section.Section.{Section}
use Rattle.grove_printer.specs.Print.{heading, tree_text, trees_text}
use Rattle.grove_answers.specs.Program.{IsHead}
use Rattle.mark_incremental.specs.Standing.{KeptMarks, StandFor}

-- the nodes are those of a tree of the graph for which the marks stand
pub record IsTreeOfMarks (marks : KeptMarks) (nodes : List Node) : Type 0 where
  pub graph : Graph
  pub live : List Edge
  pub head : Vertex
  pub stand : StandFor graph marks
  pub are_live : AreLive graph live
  pub vertex : IsVertexOf graph head
  pub outer : class live head ≡ Inner → ⊥
  pub tree : IsTreeOf live head nodes

-- the number is that of a vertex of the graph of a table that heads a tree
pub record IsTreeHead (table : Table) (n : ℕ) : Type 0 where
  pub head : IsHead table n
  pub vertex : IsVertexOf (graph table.edits) (vertex_at table n)

-- the tree of a vertex, marked, was appended
pub record IsAppended (live : List Edge) (v : Vertex) (before after : List ℕ) : Type 0 where
  pub tree : List Node
  pub marked : List MarkedNode
  pub is_tree : IsTreeOf live v tree
  pub is_marked : IsMarkedTree tree marked
  pub written : after ≡ before ++ tree_text marked

-- a heading appended to a text, and trees
abbrev pub begins : List ℕ → Section → ℕ → List ℕ → Type 0
begins before section trees after = after ≡ before ++ heading section trees

abbrev pub takes : List ℕ → List (List Node) → List (List MarkedNode) → List ℕ → Type 0
takes before trees marked after = after ≡ before ++ trees_text marked
