-- Inner model, which no public contract cites: a walk down that begins at the target of an edge at a conflict.
use Rattle.std.specs.Prelude.{◌≡◌, ◌⊎◌, ◌<◌, Bool, true, false, ℕ, ◌+◌, ◌*◌, ◌≤◌, List, [], ◌∷◌, length, take, drop, Some}
use Rattle.grove_sorts.specs.declared.position.Position.{Position}
use Rattle.grove_sorts.specs.declared.sort.Sort.{Sort}
use Rattle.grove_sorts.specs.Ctor.{positions, sort_at, sort_of_ctor}
use Rattle.grove_edits.specs.declared.vertex.Vertex.{Vertex}
use Rattle.grove_edits.specs.declared.edge.Edge.{Edge}
use Rattle.graph_words.specs.declared.class.Class.TheVariants.{Inner}
use Rattle.graph_words.specs.Class.{class}
use Rattle.graph_words.specs.Live.{holds_edge, children_of}
use Rattle.grove_terms.specs.Forest.{Forest}
use Rattle.type_core.specs.Typ.{Typ}
use Rattle.ctx_table.specs.Context.{Context}
use Rattle.mark_step.specs.declared.node.Demand.{Demand}
use Rattle.mark_step.specs.Expression.{Demanded}
use Rattle.mark_step.specs.Node as node
use Rattle.judging.specs.Machine as machine
use Rattle.judging.specs.Frames.{given_at, opened_at}
use Rattle.judging.proofs.Running.{Agree, after}
use Rattle.kept_records.specs.Kept.{Kept, Records, Stands, IsTreeIn, expression_of}
use Rattle.kept_records.specs.Renewal.{IsLeft, HasToBeJudged}
use Rattle.kept_records.specs.Short.{MakesFrom}
use Rattle.mark_store.specs.declared.record.Record.{Record}
use Rattle.mark_store.specs.Places.{Places}
use Rattle.mark_incremental.specs.declared.frame.Frame.{Frame}
use Rattle.mark_incremental.specs.Walking.{Level, demands, given_there, IsLevel, ReadsAs, IsStart, start_at, IsMember, LeavesRightBelow, meant}
use Rattle.mark_incremental.specs.ShortWalks.{IsHeadAlike, MakesAlone, LeavesRightAlone}
use Rattle.mark_incremental.specs.Ticks.{weight_of}

-- ---- where a walk may begin so

-- all edges to its target come from its position
abbrev pub IsLedFromPosition : Edge → List Edge → Type 0
IsLedFromPosition e live = (d : Edge) → holds_edge d live ≡ true → d.target ≡ e.target → (d.source ≡ e.source) × (d.position ≡ e.position)

-- why the position of an edge alone sees what an edit makes of its target
abbrev pub MaySeeAlone : Edge → List Edge → List Edge → Type 0
MaySeeAlone e old new = IsHeadAlike e.target old new ⊎ (IsLedFromPosition e old × IsLedFromPosition e new)

-- so many children stand at the position of an edge after an edit of it that there were several before
abbrev pub StoodSeveral : Edge → List Edge → Type 0
StoodSeveral e children = (2 < length children) ⊎ ((1 < length children) × (holds_edge e children ≡ false))

-- ---- what is demanded at the position

-- the vertex of an open one stands somewhere, and some of its positions gave what they give in the new graph
pub record GaveSoFar (live : List Edge) (types : List Typ) (ctxs : List Context) (l : Level) (fr : Frame) : Type 0 where
  pub vertex : fr.vertex.now ≡ l.vertex
  pub stands : Stands live l.above l.vertex l.forest l.demanded
  pub agree : Agree (sort_of_ctor l.vertex.ctor) (node.demanded_at types ctxs fr.state.demand) l.demanded
  pub gave : opened_at types ctxs fr.state
      ≡ after l.vertex.ctor (node.demanded_at types ctxs fr.state.demand) (expression_of l.vertex l.forest l.demanded) l.forest (take fr.state.next (positions l.vertex.ctor))

-- a frame keeps an open vertex at a position of which no child is taken
pub record IsOpened (live : List Edge) (types : List Typ) (ctxs : List Context) (l : Level) (fr : Frame) : Type 0 where
  pub left : Forest
  pub is : IsLevel live types ctxs (record l { left = left }) fr
  pub all_left : (p : Position × Sort) (ps : List (Position × Sort)) → drop fr.state.next (positions l.vertex.ctor) ≡ p ∷ ps → fr.left ≡ children_of l.vertex p.0 live
  pub nothing : (p : Position × Sort) (ps : List (Position × Sort)) → drop fr.state.next (positions l.vertex.ctor) ≡ p ∷ ps → given_at types fr.given ≡ machine.nothing

-- and it keeps what its position gives
pub record IsPassed (live : List Edge) (types : List Typ) (ctxs : List Context) (l : Level) (fr : Frame) : Type 0 where
  pub so_far : GaveSoFar live types ctxs l fr
  pub gives : (p : Position × Sort) (ps : List (Position × Sort)) → drop fr.state.next (positions l.vertex.ctor) ≡ p ∷ ps → given_at types fr.given ≡ given_there l fr.state (length (children_of l.vertex p.0 live)) p

-- for whatever records the map has, read through the tables
abbrev pub IsOpenedFor : List Edge → List Typ → List Context → Places Record → (Vertex → Bool) → Level → Frame → Type 0
IsOpenedFor live types ctxs places judged l fr = (records : Records) → ReadsAs types ctxs places records → LeavesRightBelow live judged records l.vertex → IsOpened live types ctxs l fr

abbrev pub IsPassedFor : List Edge → List Typ → List Context → Places Record → (Vertex → Bool) → Level → Frame → Type 0
IsPassedFor live types ctxs places judged l fr = (records : Records) → ReadsAs types ctxs places records → LeavesRightBelow live judged records l.vertex → IsPassed live types ctxs l fr

-- a vertex none of whose children is taken
abbrev pub level_at : Vertex → List Vertex → Forest → Demanded → Level
level_at v above f d = record { above = above; vertex = v; forest = f; demanded = d; left = f }

-- this number says what is demanded at the position of an edge
abbrev pub IsDemandBelow : List Edge → List Typ → List Context → Places Record → (Vertex → Bool) → Level → Position → Demand → Type 0
IsDemandBelow live types ctxs places judged l p d =
    (records : Records) → ReadsAs types ctxs places records → LeavesRightBelow live judged records l.vertex → (s : Sort) → sort_at l.vertex.ctor p ≡ Some s
    → Agree s (node.demanded_at types ctxs d) (demands l p)

-- ---- what is made

-- for the target: where it heads a tree, what is made where it is judged by itself, and else nothing, or what a walk down from it makes
pub data MakesAtConflict (e : Edge) (live : List Edge) (judged : Vertex → Bool) (records : Records) (d : Demanded) (made : List (Vertex × Kept)) : Type 0 where
  heads : (class live e.target ≡ Inner → ⊥) → MakesAlone live judged records e.target e.source made → MakesAtConflict e live judged records d made
  stays : class live e.target ≡ Inner → IsLeft judged records e.target d → made ≡ [] → MakesAtConflict e live judged records d made
  begins_there : class live e.target ≡ Inner → HasToBeJudged judged records e.target d → MakesFrom judged live records e.target d made → MakesAtConflict e live judged records d made

-- a walk down may begin at a vertex, which stands below another
pub record IsStartBelow (live : List Edge) (types : List Typ) (ctxs : List Context) (demand : Demand) (above : Vertex) (v : Vertex) (d : Demanded) : Type 0 where
  pub place : IsStart live types ctxs demand (start_at v d)
  pub member : IsMember above place.above

-- for whatever records the map has, read through the tables
abbrev pub HasMadeAtConflict : Edge → List Edge → List Typ → List Context → Places Record → (Vertex → Bool) → Demanded → List (Vertex × Record) → Type 0
HasMadeAtConflict e live types ctxs places judged d made =
    (records : Records) → ReadsAs types ctxs places records → LeavesRightAlone live judged records e.target e.source → LeavesRightBelow live judged records e.source
    → (class live e.target ≡ Inner → LeavesRightBelow live judged records e.target) → MakesAtConflict e live judged records d (meant types ctxs made)

pub record IsConflictPaid (e : Edge) (live : List Edge) (judged : Vertex → Bool) (records : Records) (d : Demanded) (before after : ℕ) : Type 0 where
  pub all : List (Vertex × Kept)
  pub makes : MakesAtConflict e live judged records d all
  pub within : after ≤ before + 5 * weight_of live all + 6

abbrev pub IsConflictPaidFor : Edge → List Edge → List Typ → List Context → Places Record → (Vertex → Bool) → Demanded → ℕ → ℕ → Type 0
IsConflictPaidFor e live types ctxs places judged d before after =
    (records : Records) → ReadsAs types ctxs places records → LeavesRightAlone live judged records e.target e.source → LeavesRightBelow live judged records e.source
    → (class live e.target ≡ Inner → LeavesRightBelow live judged records e.target) → IsConflictPaid e live judged records d before after

-- the target, where it stands in the tree of the source, stands at the position of the edge
pub record StandsAtEdge (e : Edge) (l : Level) : Type 0 where
  pub edge : Edge
  pub below : Forest
  pub is_tree : IsTreeIn l.forest edge below
  pub target : edge.target ≡ e.target
  pub position : edge.position ≡ e.position
  pub sorted : sort_at l.vertex.ctor e.position ≡ Some (sort_of_ctor e.target.ctor)
