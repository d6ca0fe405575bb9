-- Inner model, which no public contract cites: a walk down that begins near the source of an edge.
use Rattle.std.specs.Prelude.{◌≡◌, ◌⊎◌, Bool, true, false, ℕ, ◌+◌, ◌*◌, ◌≤◌, List, [], ◌∷◌, ◌++◌, IsTrue, Option, Some, None}
use Rattle.grove_sorts.specs.declared.sort.Sort.TheVariants.{Top, Exp}
use Rattle.grove_sorts.specs.Ctor.{positions, sort_of_ctor}
use Rattle.grove_edits.specs.declared.vertex.Vertex.{Vertex}
use Rattle.grove_edits.specs.declared.edge.Edge.{Edge}
use Rattle.grove_edits.specs.declared.edit.Edit.{Edit}
use Rattle.grove_edits.specs.Edit.{edit_edge}
use Rattle.grove_edits.specs.Graph.{Graph, graph, IsSame}
use Rattle.graph_words.specs.Whole.{AreLive}
use Rattle.grove_edits.specs.Vertex.{stands_in}
use Rattle.graph_words.specs.declared.class.Class.TheVariants.{Inner}
use Rattle.graph_words.specs.Class.{class}
use Rattle.graph_words.specs.Live.{holds_edge, parents_of}
use Rattle.graph_words.specs.declared.few.Few.{Few}
use Rattle.graph_words.specs.Few.{first_two}
use Rattle.mark_incremental.specs.Looking.{AreRoots}
use Rattle.graph_words.specs.Walk.{above}
use Rattle.type_core.specs.Typ.{Typ}
use Rattle.ctx_table.specs.Context.{Context}
use Rattle.mark_step.specs.declared.node.Demand.{Demand}
use Rattle.kept_records.specs.Kept.{Kept, Records, AreKept, alone}
use Rattle.kept_records.specs.Change.{CyclesStay}
use Rattle.kept_records.specs.Renewal.{IsLeft}
use Rattle.kept_records.specs.Short.{MakesFrom, LeadsUp, SourceAloneSees}
use Rattle.mark_store.specs.declared.record.Record.{Record}
use Rattle.mark_store.specs.Places.{Places, value_at}
use Rattle.mark_incremental.specs.Reading.{AreRecordsOf, demand_of}
use Rattle.mark_incremental.specs.Standing.{KeptMarks, records_in}
use Rattle.mark_incremental.specs.Walking.{Start, ReadsAs, LeavesRightBelow, meant}
use Rattle.mark_incremental.specs.Ticks.{weight_of}

-- ---- the way up

-- the vertex above one that stands in the tree of another, and none above the head of a tree
abbrev pub IsAboveInner : List Edge → Vertex → Option Vertex → Type 0
IsAboveInner live v None = class live v ≡ Inner → ⊥
IsAboveInner live v (Some w) = (class live v ≡ Inner) × (above live v ≡ Some w)

-- from a vertex one comes up to another, and passes a third one nowhere
pub record IsApartUpTo (live : List Edge) (target source at : Vertex) : Type 0 where
  pub way : List Vertex
  pub leads : LeadsUp live source way at
  pub off : stands_in target (source ∷ way) ≡ false

-- ---- what is demanded where the walk begins, and whether it may end there

-- of an expression or the root, if it has a record, is demanded what the record says
pub record IsDemandThere (places : Places Record) (v : Vertex) (d : Demand) : Type 0 where
  pub sort : (sort_of_ctor v.ctor ≡ Exp) ⊎ (sort_of_ctor v.ctor ≡ Top)
  pub kept : Record
  pub found : value_at places v ≡ Some kept
  pub is : d ≡ demand_of kept

-- the last record that is made has the type that the vertex has by its old one
pub record EndsWithType (places : Places Record) (v : Vertex) (made : List (Vertex × Record)) : Type 0 where
  pub front : List (Vertex × Record)
  pub last : Vertex × Record
  pub are : made ≡ front ++ last ∷ []
  pub old : Record
  pub found : value_at places v ≡ Some old
  pub same : last.1.typ ≡ old.typ

-- the target of an edge, where it has no record, and else its source
abbrev pub IsCameOrSource : Places Record → Edge → Vertex → Type 0
IsCameOrSource places e v = ((value_at places e.target ≡ None) × (v ≡ e.target)) ⊎ ((value_at places e.target ≡ None → ⊥) × (v ≡ e.source))

-- ---- what is made

-- the target is judged by itself: it heads a tree, the other walk begins elsewhere, and it is not left as it is
pub record IsAlone (live : List Edge) (judged : Vertex → Bool) (records : Records) (target start : Vertex) : Type 0 where
  pub outer : class live target ≡ Inner → ⊥
  pub other : target ≡ start → ⊥
  pub not_left : IsLeft judged records target alone → ⊥

-- for the target: nothing, or what is made where it is judged by itself
pub data MakesAlone (live : List Edge) (judged : Vertex → Bool) (records : Records) (target start : Vertex) (made : List (Vertex × Kept)) : Type 0 where
  inner : class live target ≡ Inner → made ≡ [] → MakesAlone live judged records target start made
  begins : target ≡ start → made ≡ [] → MakesAlone live judged records target start made
  left : IsLeft judged records target alone → made ≡ [] → MakesAlone live judged records target start made
  by_itself : IsAlone live judged records target start → MakesFrom judged live records target alone made → MakesAlone live judged records target start made

-- what is left as it is below the target has its record, where the target is judged by itself
abbrev pub LeavesRightAlone : List Edge → (Vertex → Bool) → Records → Vertex → Vertex → Type 0
LeavesRightAlone live judged records target start = IsAlone live judged records target start → LeavesRightBelow live judged records target

abbrev pub HasMadeAlone : List Edge → List Typ → List Context → Places Record → (Vertex → Bool) → Vertex → Vertex → List (Vertex × Record) → Type 0
HasMadeAlone live types ctxs places judged target start made =
    (records : Records) → ReadsAs types ctxs places records → LeavesRightAlone live judged records target start → MakesAlone live judged records target start (meant types ctxs made)

pub record IsAlonePaid (live : List Edge) (judged : Vertex → Bool) (records : Records) (target start : Vertex) (before after : ℕ) : Type 0 where
  pub all : List (Vertex × Kept)
  pub makes : MakesAlone live judged records target start all
  pub within : after ≤ before + 5 * weight_of live all + 3

abbrev pub IsAlonePaidFor : List Edge → List Typ → List Context → Places Record → (Vertex → Bool) → Vertex → Vertex → ℕ → ℕ → Type 0
IsAlonePaidFor live types ctxs places judged target start before after =
    (records : Records) → ReadsAs types ctxs places records → LeavesRightAlone live judged records target start → IsAlonePaid live judged records target start before after

-- first for the target, and then from a vertex
pub record MakesBoth (live : List Edge) (judged : Vertex → Bool) (records : Records) (target : Vertex) (from : Start) (made : List (Vertex × Kept)) : Type 0 where
  pub first : List (Vertex × Kept)
  pub makes_first : MakesAlone live judged records target from.vertex first
  pub own : List (Vertex × Kept)
  pub makes_own : MakesFrom judged live records from.vertex from.demanded own
  pub all : made ≡ first ++ own

abbrev pub HasMadeBoth : List Edge → List Typ → List Context → Places Record → (Vertex → Bool) → Vertex → Start → List (Vertex × Record) → Type 0
HasMadeBoth live types ctxs places judged target from made =
    (records : Records) → ReadsAs types ctxs places records → LeavesRightAlone live judged records target from.vertex → LeavesRightBelow live judged records from.vertex
    → MakesBoth live judged records target from (meant types ctxs made)

pub record AreBothPaid (live : List Edge) (judged : Vertex → Bool) (records : Records) (target : Vertex) (from : Start) (before after : ℕ) : Type 0 where
  pub all : List (Vertex × Kept)
  pub makes : MakesBoth live judged records target from all
  pub within : after ≤ before + 5 * weight_of live all + 3

abbrev pub AreBothPaidFor : List Edge → List Typ → List Context → Places Record → (Vertex → Bool) → Vertex → Start → ℕ → ℕ → Type 0
AreBothPaidFor live types ctxs places judged target from before after =
    (records : Records) → ReadsAs types ctxs places records → LeavesRightAlone live judged records target from.vertex → LeavesRightBelow live judged records from.vertex
    → AreBothPaid live judged records target from before after

-- ---- the edit

-- The marks stand for the graph before an edit of this edge, which leaves the roots of cycles as they were, and of which the source of
-- the edge alone sees what becomes of its target.
pub record IsSeenByOne (e : Edge) (new : List Edge) (marks : KeptMarks) : Type 0 where
  pub edits : List Edit
  pub edit : Edit
  pub of_edge : edit_edge edit ≡ e
  pub old : List Edge
  pub are_old : AreLive (graph edits) old
  pub are_new : AreLive (graph (edit ∷ edits)) new
  pub stay : CyclesStay old new
  pub kept : AreKept (graph edits) old (records_in marks)
  pub numbers : AreRecordsOf marks.types marks.contexts marks.records
  pub sees : SourceAloneSees e old new

-- all edges to its target come from its source
abbrev pub IsLedFrom : Edge → List Edge → Type 0
IsLedFrom e live = (d : Edge) → holds_edge d live ≡ true → d.target ≡ e.target → d.source ≡ e.source

-- the vertex heads a tree in both graphs, and nothing is above it
pub record IsHeadAlike (v : Vertex) (old new : List Edge) : Type 0 where
  pub class_stays : class old v ≡ class new v
  pub outer : class new v ≡ Inner → ⊥
  pub none_before : above old v ≡ None
  pub none_after : above new v ≡ None

-- the way up from a source ends where nothing is above, and passes a target nowhere
pub record IsNotPassed (live : List Edge) (target source : Vertex) : Type 0 where
  pub top : Vertex
  pub upto : IsApartUpTo live target source top
  pub none_above : above live top ≡ None

-- a vertex without positions, or one that has no record, since it is no vertex of the graph
abbrev pub IsLeaf : Places Record → Vertex → Type 0
IsLeaf places v = (positions v.ctor ≡ []) ⊎ (value_at places v ≡ None)

-- the target has no children, or is passed nowhere
abbrev pub IsApart : List Edge → Places Record → Vertex → Vertex → Type 0
IsApart live places target source = ((target ≡ source → ⊥) × IsLeaf places target) ⊎ IsNotPassed live target source

-- why the source of an edge alone sees what an edit makes of its target, and the roots of cycles stay, if it is known that the target is
-- not above the source
abbrev pub MayBeShort : Edge → Bool → List Edge → List Edge → Type 0
MayBeShort e apart old new = IsHeadAlike e.target old new ⊎ ((apart ≡ true) × IsLedFrom e old × IsLedFrom e new)

-- ---- a short walk is tried

-- The marks stand for the graph before an edit of this edge, which made the graph, and had these live edges. So the parents of the target
-- were, and so it was found whether the target was above the source.
pub record StoodBefore (e : Edge) (g : Graph) (marks : KeptMarks) (before : Few) (apart : Bool) : Type 0 where
  pub edits : List Edit
  pub edit : Edit
  pub of_edge : edit_edge edit ≡ e
  pub made : IsSame g (graph (edit ∷ edits))
  pub old : List Edge
  pub are_old : AreLive (graph edits) old
  pub kept : AreKept (graph edits) old (records_in marks)
  pub numbers : AreRecordsOf marks.types marks.contexts marks.records
  pub rooted : AreRoots old marks.roots
  pub parents : before ≡ first_two (parents_of e.target old)
  pub is_apart : IsTrue apart → IsApart old marks.records e.target e.source
