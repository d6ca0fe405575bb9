-- What one edit changes: the trees that it touches, the vertices near it, and the size of the change.
use Rattle.std.specs.Prelude.{◌≡◌, ◌⊎◌, ℕ, ◌+◌, true, false, Bool, ◌||◌, List, [], ◌∷◌, ◌++◌, length, filter, sum_by, Some, None}
use Rattle.grove_sorts.specs.declared.sort.Sort.TheVariants.{Exp}
use Rattle.grove_sorts.specs.Ctor.{sort_of_ctor}
use Rattle.grove_edits.specs.declared.vertex.Vertex.{Vertex}
use Rattle.grove_edits.specs.declared.edge.Edge.{Edge}
use Rattle.grove_edits.specs.Graph.{Graph}
use Rattle.graph_words.specs.declared.class.Class.{Class}
use Rattle.graph_words.specs.declared.class.Class.TheVariants.{Inner}
use Rattle.graph_words.specs.Live.{holds_edge}
use Rattle.grove_edits.specs.Vertex.{is_same_vertex, stands_in}
use Rattle.graph_words.specs.Walk.{walk}
use Rattle.graph_words.specs.Whole.{IsVertexOf}
use Rattle.graph_words.specs.Class.{class, is_cycle_root}
use Rattle.grove_terms.specs.declared.node.Node.{Node}
use Rattle.grove_terms.specs.declared.grove.Grove.{Grove}
use Rattle.grove_terms.specs.Forest.{Forest}
use Rattle.mark_step.specs.Expression.{Demanded}
use Rattle.kept_records.specs.Kept.{Kept, Records, Stands, IsKeptOf, IsRecordOf}
use Rattle.kept_records.specs.Local.{kept_demand}

-- the second list has the edge where it stands, and the first has all others
pub record HasOneMore (e : Edge) (less more : List Edge) : Type 0 where
  pub before : List Edge
  pub behind : List Edge
  pub without : less ≡ before ++ behind
  pub with_it : more ≡ before ++ e ∷ behind

-- what an edit of an edge may make of the live edges: nothing else, or the edge comes or goes
pub data Changes (e : Edge) (old new : List Edge) : Type 0 where
  same : old ≡ new → Changes e old new
  comes : HasOneMore e old new → Changes e old new
  goes : HasOneMore e new old → Changes e old new

-- ---- touched trees

abbrev pub IsAmong : {X : Type 0} → X → List X → Type 0
IsAmong x [] = ⊥
IsAmong x (y ∷ ys) = (y ≡ x) ⊎ IsAmong x ys

abbrev pub trees_in : Grove → List (List Node)
trees_in grove = grove.none ++ (grove.multi ++ grove.cycle)

-- those of some trees that are not among others, in order
abbrev pub AreOnlyAmong : List (List Node) → List (List Node) → List (List Node) → Type 0
AreOnlyAmong [] others only = only ≡ []
AreOnlyAmong (t ∷ ts) others only =
    (IsAmong t others × AreOnlyAmong ts others only)
    ⊎ ((IsAmong t others → ⊥) × ((rest : List (List Node)) × (only ≡ t ∷ rest) × AreOnlyAmong ts others rest))

-- the trees that are in exactly one of two groves
pub record AreTouched (before after touched : List (List Node)) : Type 0 where
  pub gone : List (List Node)
  pub come : List (List Node)
  pub gone_are : AreOnlyAmong before after gone
  pub come_are : AreOnlyAmong after before come
  pub all : touched ≡ gone ++ come

-- the nodes of some trees
abbrev pub node_count : List (List Node) → ℕ
node_count trees = sum_by length trees

-- the vertex at the top of some vertices one above the other
abbrev pub top_of : Vertex → List Vertex → Vertex
top_of v [] = v
top_of v (u ∷ us) = top_of u us

-- a vertex stands in the tree that another heads
pub record StandsIn (live : List Edge) (head : Vertex) (v : Vertex) : Type 0 where
  pub above : List Vertex
  pub forest : Forest
  pub demanded : Demanded
  pub stands : Stands live above v forest demanded
  pub top : top_of v above ≡ head

-- Which heads of trees in one of the graphs an edit may concern: the target, where it changes its class, the roots of cycles that
-- come or go, and the heads of the trees that hold the source, a parent of such a target, or a parent of such a root.
pub data IsConcerned (e : Edge) (old new live : List Edge) (head : Vertex) : Type 0 where
  is_target : head ≡ e.target → (class old e.target ≡ class new e.target → ⊥) → IsConcerned e old new live head
  is_root : (is_cycle_root old head ≡ is_cycle_root new head → ⊥) → IsConcerned e old new live head
  holds_source : StandsIn live head e.source → IsConcerned e old new live head
  holds_parent : (d : Edge) → holds_edge d live ≡ true → d.target ≡ e.target → (class old e.target ≡ class new e.target → ⊥) → StandsIn live head d.source
      → IsConcerned e old new live head
  refers_to_root : (d : Edge) → holds_edge d live ≡ true → (is_cycle_root old d.target ≡ is_cycle_root new d.target → ⊥) → StandsIn live head d.source
      → IsConcerned e old new live head

-- Which heads of trees in the one graph have another tree in the other, or none: those that stand in the tree of another vertex there,
-- and the heads of the trees that hold the source of an edge that came or went, or an edge whose target is of another class there.
pub data HasOtherTree (e : Edge) (live there : List Edge) (head : Vertex) : Type 0 where
  inner_there : class there head ≡ Inner → HasOtherTree e live there head
  source_within : (live ≡ there → ⊥) → StandsIn live head e.source → HasOtherTree e live there head
  target_differs : (d : Edge) → holds_edge d live ≡ true → (class live d.target ≡ class there d.target → ⊥) → StandsIn live head d.source → HasOtherTree e live there head

-- ---- vertices near an edit

-- the vertex stands on one of the walks from the ends of the edge in both graphs
abbrev pub is_on_walks : Edge → List Edge → List Edge → Vertex → Bool
is_on_walks e old new v =
    (stands_in v (walk old e.source) || stands_in v (walk old e.target)) || (stands_in v (walk new e.source) || stands_in v (walk new e.target))

-- marking says other of the vertex in the one graph than in the other, or its children are others
pub record Differs (old new : List Edge) (v : Vertex) : Type 0 where
  pub kept_before : Kept
  pub children_before : List (Edge × Class)
  pub kept_after : Kept
  pub children_after : List (Edge × Class)
  pub is_before : IsRecordOf old v kept_before children_before
  pub is_after : IsRecordOf new v kept_after children_after
  pub other : (kept_before ≡ kept_after) × (children_before ≡ children_after) → ⊥

-- the vertex differs, or stands on one of the walks; so it is with each vertex that only one of the graphs has
abbrev pub IsNear : Edge → List Edge → List Edge → Vertex → Type 0
IsNear e old new v = (is_on_walks e old new v ≡ true) ⊎ Differs old new v

abbrev pub StandOnce : List Vertex → Type 0
StandOnce [] = Unit {0}
StandOnce (v ∷ vs) = (stands_in v vs ≡ false) × StandOnce vs

-- the list has the vertices near an edit of the edge, each once
pub record AreNear (e : Edge) (old new : List Edge) (vertices : List Vertex) : Type 0 where
  pub once : StandOnce vertices
  pub each : (v : Vertex) → IsNear e old new v → stands_in v vertices ≡ true
  pub no_other : (v : Vertex) → stands_in v vertices ≡ true → IsNear e old new v

-- ---- the vertices that are judged again

-- Which vertices of the new graph are judged again, as far as the kept records of the old one tell: the heads of trees that stand on
-- the walks, and of the children of a vertex that is judged again those that stand on the walks or of which is demanded what was not
-- demanded before.
pub record Enters (e : Edge) (old new : List Edge) (records : Records) (entered : Vertex → Bool) : Type 0 where
  pub heads : (v : Vertex) → (class new v ≡ Inner → ⊥) → is_on_walks e old new v ≡ true → entered v ≡ true
  pub on_walks : (u : Vertex) (us : List Vertex) (v : Vertex) (f : Forest) (d : Demanded) → Stands new (u ∷ us) v f d
      → entered u ≡ true → is_on_walks e old new v ≡ true → entered v ≡ true
  pub demanded : (u : Vertex) (us : List Vertex) (v : Vertex) (f : Forest) (d : Demanded) → Stands new (u ∷ us) v f d
      → entered u ≡ true → entered v ≡ false → sort_of_ctor v.ctor ≡ Exp → kept_demand records v ≡ d

-- no other vertices are judged again
abbrev pub EntersNoOther : Edge → List Edge → List Edge → Records → (Vertex → Bool) → Type 0
EntersNoOther e old new records entered =
    (us : List Vertex) (v : Vertex) (f : Forest) (d : Demanded) → Stands new us v f d → entered v ≡ true
    → (is_on_walks e old new v ≡ true) ⊎ ((sort_of_ctor v.ctor ≡ Exp) × (kept_demand records v ≡ d → ⊥))

-- of a vertex that is judged again is kept what marking says of it now, of each other what was kept, and nothing of what is no vertex
pub record Renews (after : Graph) (new : List Edge) (records : Records) (entered : Vertex → Bool) (renewed : Records) : Type 0 where
  pub inside : (v : Vertex) → IsVertexOf after v → entered v ≡ true → (kept : Kept) × (renewed v ≡ Some kept) × IsKeptOf new v kept
  pub outside : (v : Vertex) → entered v ≡ false → renewed v ≡ records v
  pub no_other : (v : Vertex) → (IsVertexOf after v → ⊥) → renewed v ≡ None

-- ---- the size of a change

-- the same vertices are the roots of cycles in both graphs
abbrev pub CyclesStay : List Edge → List Edge → Type 0
CyclesStay old new = (v : Vertex) → is_cycle_root old v ≡ is_cycle_root new v

-- the live edges from a vertex
abbrev pub leaving : Vertex → List Edge → List Edge
leaving v live = filter (λ e. is_same_vertex e.source v) live

-- one for the vertex and one for each live edge from it, in both graphs
abbrev pub weight : List Edge → List Edge → Vertex → ℕ
weight old new v = 1 + (length (leaving v old) + length (leaving v new))

-- the size of an edit after which the same vertices are the roots of cycles
abbrev pub near_size : List Edge → List Edge → List Vertex → ℕ
near_size old new near = sum_by (weight old new) near
