-- What is written of what marking says of single vertices.
use Rattle.std.specs.Prelude.{◌≡◌, ◌≢◌, ℕ, List, [], ◌∷◌, ◌++◌, Option, None, Some}
use Rattle.std.specs.List.{flat_map}
use Rattle.serde_json.specs.Written.{compact_text}
use Rattle.grove_names.specs.Name.{name_text, InRange as NameInRange}
use Rattle.grove_sorts.specs.Ctor.{ctor_text, InRange as CtorInRange}
use Rattle.grove_edits.specs.declared.vertex.Vertex.{Vertex}
use Rattle.grove_edits.specs.declared.edge.Edge.{Edge}
use Rattle.grove_edits.specs.Graph.{Graph}
use Rattle.graph_words.specs.Whole.{AreLive, IsVertexOf}
use Rattle.kept_records.specs.Kept.{Kept, Records, AreKept}
use Rattle.grove_json.specs.RecordValue.{record_value}
use Rattle.grove_editor.specs.declared.vertex_fault.VertexFault.{VertexFault}
use Rattle.grove_editor.specs.declared.vertex_fault.VertexFault.TheVariants.{Syntax, NoVertex, NoMemory}

-- a vertex as lines of edits spell it
abbrev pub vertex_text : Vertex → List ℕ
vertex_text v = name_text v.name ++ 32 ∷ ctor_text v.ctor

-- the value of the record of a vertex, where there is one, and a line feed
abbrev pub record_text : Vertex → Option Kept → List ℕ
record_text v None = []
record_text v (Some kept) = compact_text (record_value v kept.wanted kept.typ kept.mark) ++ 10 ∷ []

abbrev pub records_text : Records → List Vertex → List ℕ
records_text records vertices = flat_map (λ v. record_text v (records v)) vertices

-- the text has what marking the graph says of these vertices
pub record AreRecordsTold (g : Graph) (vertices : List Vertex) (text : List ℕ) : Type 0 where
  pub live : List Edge
  pub are_live : AreLive g live
  pub records : Records
  pub kept : AreKept g live records
  pub written : text ≡ records_text records vertices

-- the text has what marking the graph says of this vertex, which is one of the graph
pub record IsRecordTold (g : Graph) (vertex : Vertex) (text : List ℕ) : Type 0 where
  pub live : List Edge
  pub are_live : AreLive g live
  pub records : Records
  pub kept : AreKept g live records
  pub own : Kept
  pub is_own : records vertex ≡ Some own
  pub written : text ≡ record_text vertex (Some own)

-- why the record of a vertex was not written; want of memory says nothing of it
abbrev pub IsVertexFault : Graph → List ℕ → VertexFault → Type 0
IsVertexFault g words Syntax = (vertex : Vertex) → NameInRange vertex.name → CtorInRange vertex.ctor → words ≢ vertex_text vertex
IsVertexFault g words NoVertex = (vertex : Vertex) × (words ≡ vertex_text vertex) × (IsVertexOf g vertex → ⊥)
IsVertexFault g words NoMemory = Unit {0}
