-- A graph by numbers, and the vertices that head its trees.
use Rattle.std.specs.Prelude.{◌≡◌, ◌≢◌, ℕ, List}
use Rattle.std.specs.List.{AllByRecursion}
use Rattle.grove_edits.specs.declared.vertex.Vertex.{Vertex}
use Rattle.grove_edits.specs.Graph.{graph}
use Rattle.graph_words.specs.declared.class.Class.TheVariants.{NoParent, Multi, Inner}
use Rattle.graph_words.specs.Class.{class, of_class}
use Rattle.graph_words.specs.Whole.{AreVertices, AreLive}
use Rattle.graph_table.specs.Table.{Table, live, vertex_at, IsNumber}
use Rattle.grove_decompose.specs.Trees.{vertices_of}
use Rattle.grove_answers.specs.declared.program.Program.{Program}

-- the number is that of a vertex that heads a tree
pub record IsHead (table : Table) (n : ℕ) : Type 0 where
  pub number : IsNumber table n
  pub outer : class (live table) (vertex_at table n) ≢ Inner

-- the lists are those of the table
pub record IsProgram (program : Program) : Type 0 where
  pub are_live : AreLive (graph program.table.edits) (live program.table)
  pub none : (vertices : List Vertex) → AreVertices (graph program.table.edits) vertices → vertices_of program.table program.heads.none.items ≡ of_class NoParent (live program.table) vertices
  pub multi : (vertices : List Vertex) → AreVertices (graph program.table.edits) vertices → vertices_of program.table program.heads.multi.items ≡ of_class Multi (live program.table) vertices
  pub none_heads : AllByRecursion (IsHead program.table) program.heads.none.items
  pub multi_heads : AllByRecursion (IsHead program.table) program.heads.multi.items
