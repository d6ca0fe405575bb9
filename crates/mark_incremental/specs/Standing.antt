-- What kept marks are, and when they stand for a graph.
use Rattle.std.specs.Prelude.{Bool, List, [], ◌∷◌, Option, Some, if◌then◌else◌}
use Rattle.grove_edits.specs.declared.vertex.Vertex.{Vertex}
use Rattle.grove_edits.specs.declared.edge.Edge.{Edge}
use Rattle.grove_edits.specs.declared.edit.Edit.{Edit}
use Rattle.grove_edits.specs.Vertex.{is_same_vertex}
use Rattle.grove_edits.specs.Graph.{Graph, graph, IsSame}
use Rattle.graph_words.specs.Whole.{AreLive}
use Rattle.type_core.specs.Typ.{Typ}
use Rattle.ctx_table.specs.Context.{Context}
use Rattle.kept_records.specs.Kept.{Records, AreKept}
use Rattle.mark_store.specs.declared.record.Record.{Record}
use Rattle.mark_store.specs.Places.{Places, value_at}
use Rattle.mark_incremental.specs.Reading.{records_at, AreRecordsOf}
use Rattle.mark_incremental.specs.Looking.{AreRoots}

-- the tables, the records of vertices by their numbers, and the vertices that are the roots of cycles
pub record KeptMarks : Type 0 where
  pub types : List Typ
  pub contexts : List Context
  pub records : Places Record
  pub roots : Places Bool

-- the kept record of a vertex, if there is one
abbrev pub kept_in : KeptMarks → Vertex → Option Record
kept_in marks v = value_at marks.records v

-- what the kept records stand for
abbrev pub records_in : KeptMarks → Records
records_in marks = records_at marks.types marks.contexts marks.records

-- Of each vertex of the graph is kept what marking says of it, by numbers of the tables, and nothing of others. The graph is that of
-- some edits.
pub record StandFor (g : Graph) (marks : KeptMarks) : Type 0 where
  pub edits : List Edit
  pub made : IsSame g (graph edits)
  pub live : List Edge
  pub are_live : AreLive g live
  pub kept : AreKept g live (records_in marks)
  pub rooted : AreRoots live marks.roots
  pub numbers : AreRecordsOf marks.types marks.contexts marks.records

-- what is found of a vertex where some records are put in place of others, of several of one vertex the first
abbrev pub put_in : List (Vertex × Record) → (Vertex → Option Record) → Vertex → Option Record
put_in [] found v = found v
put_in (m ∷ ms) found v = if is_same_vertex m.0 v then Some m.1 else put_in ms found v
