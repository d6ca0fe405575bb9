-- Which vertices marking judges otherwise in one graph than in another.
use Rattle.std.specs.Prelude.{◌≡◌, Bool, true, List, Option}
use Rattle.std.specs.Option.{option_map}
use Rattle.grove_edits.specs.declared.vertex.Vertex.{Vertex}
use Rattle.grove_edits.specs.declared.edge.Edge.{Edge}
use Rattle.grove_edits.specs.Vertex.{stands_in}
use Rattle.grove_edits.specs.Graph.{Graph}
use Rattle.graph_words.specs.Class.{is_cycle_root}
use Rattle.graph_words.specs.Whole.{IsInVertexOrder, AreLive}
use Rattle.type_core.specs.Typ.{Typ}
use Rattle.mark_step.specs.declared.node.Mark.{Mark}
use Rattle.mark_step.specs.Expression.{Wanted}
use Rattle.kept_records.specs.Kept.{Kept, Records, AreKept}

-- what marking judges of a vertex: what is wanted of it, its type and its mark; the scope in which it is judged is left aside
pub record Judgement : Type 0 where
  pub wanted : Option Wanted
  pub typ : Option Typ
  pub mark : Mark

abbrev pub judgement : Kept → Judgement
judgement kept = record { wanted = kept.wanted; typ = kept.typ; mark = kept.mark }

abbrev pub judgement_in : Records → Vertex → Option Judgement
judgement_in records v = option_map judgement (records v)

-- a vertex has the same judgement before and after, or none both times, and is the root of a cycle both times or not at all
pub record IsJudgedAlike (before after : Records) (was_root is_root : Vertex → Bool) (v : Vertex) : Type 0 where
  pub judgement : judgement_in before v ≡ judgement_in after v
  pub root : was_root v ≡ is_root v

-- the list has the vertices that are not, in vertex order
pub record AreJudgedOtherwise (before after : Records) (was_root is_root : Vertex → Bool) (vertices : List Vertex) : Type 0 where
  pub in_order : IsInVertexOrder vertices
  pub each : (v : Vertex) → (IsJudgedAlike before after was_root is_root v → ⊥) → stands_in v vertices ≡ true
  pub no_other : (v : Vertex) → stands_in v vertices ≡ true → IsJudgedAlike before after was_root is_root v → ⊥

-- The list has the vertices whose judgement in the marking of one graph is not that in the marking of the other, or which are the root of
-- a cycle in only one of them. A vertex that only one of them has is one of these.
abbrev pub AreChangedMarks : Graph → Graph → List Vertex → Type 0
AreChangedMarks before after vertices =
    (live_before live_after : List Edge) (records_before records_after : Records) → AreLive before live_before → AreKept before live_before records_before
    → AreLive after live_after → AreKept after live_after records_after
    → AreJudgedOtherwise records_before records_after (is_cycle_root live_before) (is_cycle_root live_after) vertices
