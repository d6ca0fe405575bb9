-- What is told on the way, and from which heads.
use Rattle.std.specs.Prelude.{◌≡◌, ◌≢◌, ℕ, ◌*◌, List, ◌++◌, length}
use Rattle.std.specs.List.{AllByRecursion}
use Rattle.grove_edits.specs.declared.edge.Edge.{Edge}
use Rattle.grove_edits.specs.declared.vertex.Vertex.{Vertex}
use Rattle.grove_edits.specs.Graph.{graph}
use Rattle.graph_words.specs.declared.class.Class.TheVariants.{NoParent, Multi, Inner}
use Rattle.graph_words.specs.Class.{class, of_class}
use Rattle.graph_words.specs.Whole.{AreVertices}
use Rattle.graph_table.specs.Table.{Table, live, vertex_at, IsNumber}
use Rattle.grove_terms.specs.declared.node.Node.{Node}
use Rattle.grove_terms.specs.Grove.{AreTreesOf}
use Rattle.grove_decompose.specs.declared.trees.NumberedHeads.{NumberedHeads}
use Rattle.grove_decompose.specs.Trees.{vertices_of}
use Rattle.type_infer.specs.declared.solving.Inference.{Inference}
use Rattle.type_infer.specs.declared.solving.Inference.TheVariants.{Solved, Clash}
use Rattle.infer_answers.specs.Texts.{AreTreeTexts, joined}

-- the answer has a term for each variable of so many lines
abbrev pub IsWide : ℕ → Inference → Type 0
IsWide lines (Solved terms) = length terms ≡ 3 * lines
IsWide lines (Clash equation) = Unit {0}

-- the number is that of a vertex that heads a tree
pub record IsHead (table : Table) (n : ℕ) : Type 0 where
  pub number : IsNumber table n
  pub outer : class (live table) (vertex_at table n) ≢ Inner

-- the lists are those of the table
pub record AreHeads (table : Table) (heads : NumberedHeads) : Type 0 where
  pub none : (vertices : List Vertex) → AreVertices (graph table.edits) vertices → vertices_of table heads.none.items ≡ of_class NoParent (live table) vertices
  pub multi : (vertices : List Vertex) → AreVertices (graph table.edits) vertices → vertices_of table heads.multi.items ≡ of_class Multi (live table) vertices
  pub none_numbers : AllByRecursion (IsNumber table) heads.none.items
  pub multi_numbers : AllByRecursion (IsNumber table) heads.multi.items

-- the trees of these vertices were told
pub record AreInferred (live : List Edge) (vs : List Vertex) (before after : List ℕ) : Type 0 where
  pub trees : List (List Node)
  pub texts : List (List ℕ)
  pub are_trees : AreTreesOf live vs trees
  pub are_texts : AreTreeTexts trees texts
  pub written : after ≡ before ++ joined texts
