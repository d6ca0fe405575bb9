-- Records that are right at a vertex, as far as those of its neighbours say.
use Rattle.std.specs.Prelude.{◌≡◌, ℕ, suc, Bool, ◌&&◌, List, [], ◌∷◌, ◌++◌, Option, Some, None, unwrap_or, if◌then◌else◌}
use Rattle.grove_sorts.specs.declared.ident.Ident.{Ident}
use Rattle.grove_sorts.specs.declared.position.Position.{Position}
use Rattle.grove_sorts.specs.declared.sort.Sort.{Sort}
use Rattle.grove_sorts.specs.declared.ctor.Ctor.{Ctor}
use Rattle.grove_sorts.specs.Row.{row}
use Rattle.grove_sorts.specs.Ctor.{positions, sort_of_ctor}
use Rattle.grove_edits.specs.declared.vertex.Vertex.{Vertex}
use Rattle.grove_edits.specs.declared.edge.Edge.{Edge}
use Rattle.grove_edits.specs.Graph.{Graph}
use Rattle.graph_words.specs.declared.class.Class.TheVariants.{Inner}
use Rattle.graph_words.specs.Live.{parents_of}
use Rattle.grove_sorts.specs.Position.{is_same_position}
use Rattle.graph_words.specs.Class.{class, is_same_class}
use Rattle.graph_words.specs.Whole.{IsVertexOf}
use Rattle.grove_terms.specs.Forest.{edges_under}
use Rattle.type_core.specs.Typ.{Typ, Unknown}
use Rattle.mark_step.specs.Scope.{Scope}
use Rattle.mark_step.specs.Expression.{Wanted, Synthesise, Bound, Expression, Demanded}
use Rattle.mark_step.specs.Step.{demand, settled}
use Rattle.mark_step.specs.Rows.{is_exp}
use Rattle.marking.specs.Types.{if_sole, type_made, pattern_name, bound_at}
use Rattle.kept_records.specs.Kept.{Kept, Records, alone, kept_as, demanded_among}

-- the vertex stands in the tree of another
abbrev pub is_inner : List Edge → Vertex → Bool
is_inner live v = is_same_class (class live v) Inner

-- ---- what is kept of a vertex

abbrev pub scope_in : Option Kept → Scope
scope_in None = []
scope_in (Some kept) = kept.scope

abbrev pub wanted_in : Option Kept → Wanted
wanted_in None = Synthesise
wanted_in (Some kept) = unwrap_or kept.wanted Synthesise

abbrev pub typ_in : Option Kept → Typ
typ_in None = Unknown
typ_in (Some kept) = unwrap_or kept.typ Unknown

-- ---- the children of a vertex, by the edges to them

-- how many stand at a position
abbrev pub edges_at : List Edge → Position → ℕ
edges_at [] p = 0
edges_at (e ∷ es) p = if is_same_position e.position p then suc (edges_at es p) else edges_at es p

-- the child at a position is a tree
abbrev pub is_tree_at : List Edge → Position → Edge → Bool
is_tree_at live p e = is_inner live e.target && is_same_position e.position p

-- the kept type of the tree that is a child at a position; a reference has none
abbrev pub kept_child : List Edge → Records → List Edge → Position → Typ
kept_child live records [] p = Unknown
kept_child live records (e ∷ es) p = if is_tree_at live p e then typ_in (records e.target) else kept_child live records es p

-- the type of a position: that of an only child, and unknown where there is none or a conflict
abbrev pub kept_in : List Edge → Records → List Edge → Position → Typ
kept_in live records es p = if_sole (edges_at es p) (kept_child live records es p) Unknown

-- the name of the pattern that is a child at a position; a reference has none
abbrev pub name_of_child : List Edge → List Edge → Position → Option Ident
name_of_child live [] p = None
name_of_child live (e ∷ es) p = if is_tree_at live p e then pattern_name e.target.ctor else name_of_child live es p

-- the name of a param position: that of the pattern there, where it is an only child and a tree
abbrev pub kept_name : List Edge → List Edge → Position → Option Ident
kept_name live es p = if_sole (edges_at es p) (name_of_child live es p) None

-- what a vertex binds, by the names and the types at its positions
abbrev pub bound_made : Ctor → (Position → Option Ident) → (Position → Typ) → Bound
bound_made ctor names types = bound_at (row ctor).binds names types

-- what a vertex with these children binds
abbrev pub kept_bound : List Edge → Records → Ctor → List Edge → Bound
kept_bound live records ctor es = bound_made ctor (kept_name live es) (kept_in live records es)

-- the types of the expressions at some positions, after those before them
abbrev pub kept_types : List Edge → Records → List Edge → List (Position × Sort) → List Typ → List Typ
kept_types live records es [] before = before
kept_types live records es (p ∷ ps) before = kept_types live records es ps (if is_exp p.1 then (before ++ kept_in live records es p.0 ∷ []) else before)

-- the types of the expressions at the positions before one of these
abbrev pub kept_before : List Edge → Records → List Edge → Position → List (Position × Sort) → List Typ → List Typ
kept_before live records es p [] before = before
kept_before live records es p (q ∷ qs) before =
    if is_same_position q.0 p then before
    else kept_before live records es p qs (if is_exp q.1 then (before ++ kept_in live records es q.0 ∷ []) else before)

-- ---- the rules at one vertex

-- the expression at a vertex of which this is demanded
abbrev pub kept_expression_at : List Edge → Records → Vertex → Demanded → Expression
kept_expression_at live records v d = record { ctor = v.ctor; scope = d.scope; wanted = d.wanted; bound = kept_bound live records v.ctor (edges_under live v) }

-- what is demanded of a vertex, as its record says
abbrev pub kept_demand : Records → Vertex → Demanded
kept_demand records v = record { scope = scope_in (records v); wanted = wanted_in (records v) }

-- what is demanded of a child at a position, by the record of the vertex and those of the children before it
abbrev pub demanded_below : List Edge → Records → Vertex → Position → Demanded
demanded_below live records u p =
    demanded_among (edges_at (edges_under live u) p)
    (demand (kept_expression_at live records u (kept_demand records u)) (kept_before live records (edges_under live u) p (positions u.ctor) []))

abbrev pub demanded_by : List Edge → Records → List Edge → Demanded
demanded_by live records [] = alone
demanded_by live records (e ∷ []) = demanded_below live records e.source e.position
demanded_by live records (e ∷ f ∷ _) = alone

-- what is demanded of a vertex: by the vertex above it, or that it is judged by itself where it heads a tree
abbrev pub demanded_of : List Edge → Records → Vertex → Demanded
demanded_of live records v = if is_inner live v then demanded_by live records (parents_of v live) else alone

-- the record that a vertex has by the rules, where this is demanded of it, its children having theirs
abbrev pub settled_at : List Edge → Records → Vertex → Demanded → Kept
settled_at live records v d =
    kept_as (sort_of_ctor v.ctor) d (settled (kept_expression_at live records v d) (kept_types live records (edges_under live v) (positions v.ctor) []))
    (type_made v.ctor (kept_in live records (edges_under live v)))

-- a vertex has the record that it has by the rules, the vertex above it and its children having theirs
abbrev pub IsRightAt : List Edge → Records → Vertex → Type 0
IsRightAt live records v = records v ≡ Some (settled_at live records v (demanded_of live records v))

-- the records of the vertices of a graph are right at each vertex, and no others are kept
pub record AreRight (g : Graph) (live : List Edge) (records : Records) : Type 0 where
  pub each : (v : Vertex) → IsVertexOf g v → IsRightAt live records v
  pub no_other : (v : Vertex) → (IsVertexOf g v → ⊥) → records v ≡ None
