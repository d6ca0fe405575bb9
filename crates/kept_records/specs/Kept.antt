-- What marking says of the vertices of a graph.
use Rattle.std.specs.Prelude.{◌≡◌, ◌⊎◌, ℕ, zero, suc, List, [], ◌∷◌, ◌++◌, map, Option, Some, None, if◌then◌else◌}
use Rattle.grove_sorts.specs.declared.position.Position.{Position}
use Rattle.grove_sorts.specs.declared.sort.Sort.{Sort}
use Rattle.grove_sorts.specs.declared.sort.Sort.TheVariants.{Top, Exp, Pat, Typ as TypeSort}
use Rattle.grove_sorts.specs.Ctor.{positions, sort_of_ctor}
use Rattle.grove_edits.specs.declared.vertex.Vertex.{Vertex}
use Rattle.grove_edits.specs.declared.edge.Edge.{Edge}
use Rattle.grove_edits.specs.Graph.{Graph}
use Rattle.graph_words.specs.declared.class.Class.{Class}
use Rattle.graph_words.specs.declared.class.Class.TheVariants.{Inner}
use Rattle.grove_sorts.specs.Position.{is_same_position}
use Rattle.graph_words.specs.Class.{class}
use Rattle.graph_words.specs.Whole.{IsVertexOf}
use Rattle.grove_terms.specs.Forest.{Forest, none, multi_ref, cycle_ref, tree, edges_under, StandsUnder}
use Rattle.grove_terms.specs.Nodes.{count_at}
use Rattle.type_core.specs.Typ.{Typ}
use Rattle.mark_step.specs.declared.node.Mark.{Mark}
use Rattle.mark_step.specs.declared.node.Mark.TheVariants as mark
use Rattle.mark_step.specs.Scope.{Scope}
use Rattle.mark_step.specs.Expression.{Wanted, Synthesise, Expression, Demanded, Marked}
use Rattle.mark_step.specs.Step.{demand, settled}
use Rattle.mark_step.specs.Rows.{is_exp}
use Rattle.marking.specs.Types.{tree_type}
use Rattle.marking.specs.Marking.{expression, judged_in, children_types, synthesised_in}

-- the scope in which a vertex is judged and what is wanted of it, where it is an expression, its type, where it has one, and its mark
pub record Kept : Type 0 where
  pub scope : Scope
  pub wanted : Option Wanted
  pub typ : Option Typ
  pub mark : Mark

-- what is demanded of a vertex that heads a tree: it is judged by itself, in no scope
abbrev pub alone : Demanded
alone = record { scope = []; wanted = Synthesise }

abbrev pub kept_expression : Demanded → Marked → Kept
kept_expression d m = record { scope = d.scope; wanted = Some d.wanted; typ = Some m.typ; mark = m.mark }

abbrev pub kept_type : Typ → Kept
kept_type t = record { scope = []; wanted = None; typ = Some t; mark = mark.None }

abbrev pub kept_plain : Kept
kept_plain = record { scope = []; wanted = None; typ = None; mark = mark.None }

-- of a vertex of a sort: as an expression it is judged as is demanded, and as a type it has a type; the others are not judged
abbrev pub kept_as : Sort → Demanded → Marked → Typ → Kept
kept_as Exp d m t = kept_expression d m
kept_as TypeSort d m t = kept_type t
kept_as Pat d m t = kept_plain
kept_as Top d m t = kept_plain

-- the expression at a vertex with these children, of which this is demanded
abbrev pub expression_of : Vertex → Forest → Demanded → Expression
expression_of v f d = expression v.ctor d.scope d.wanted f

-- what marking says of a vertex with these children, of which this is demanded
abbrev pub kept_of : Vertex → Forest → Demanded → Kept
kept_of v f d = kept_as (sort_of_ctor v.ctor) d (settled (expression_of v f d) (children_types (expression_of v f d) f)) (tree_type v.ctor f)

-- ---- what is demanded of a child

-- the types of the expressions at the positions before one of these, each judged as is demanded after those before it
abbrev pub types_before : Expression → (Position → Demanded → Typ) → Position → List (Position × Sort) → List Typ → List Typ
types_before x judge p [] before = before
types_before x judge p (q ∷ qs) before =
    if is_same_position q.0 p then before
    else types_before x judge p qs (if is_exp q.1 then (before ++ judge q.0 (demand x before) ∷ []) else before)

-- of each of so many children at one position: of several, that they synthesise
abbrev pub demanded_among : ℕ → Demanded → Demanded
demanded_among zero d = d
demanded_among (suc zero) d = d
demanded_among (suc (suc _)) d = synthesised_in d

-- of a child at a position of an expression with these children
abbrev pub demanded_at : Expression → Forest → Position → Demanded
demanded_at x f p = demanded_among (count_at f p) (demand x (types_before x (judged_in f) p (positions x.ctor) []))

-- ---- where a vertex stands

-- the edge is that of a child which is a tree, and below is what stands under it
abbrev pub IsTreeIn : Forest → Edge → Forest → Type 0
IsTreeIn none e below = ⊥
IsTreeIn (multi_ref d rest) e below = IsTreeIn rest e below
IsTreeIn (cycle_ref d rest) e below = IsTreeIn rest e below
IsTreeIn (tree d under rest) e below = ((d ≡ e) × (under ≡ below)) ⊎ IsTreeIn rest e below

-- a vertex stands below another, which has these children and of which this is demanded
pub record IsChild (u : Vertex) (g : Forest) (given : Demanded) (v : Vertex) (f : Forest) (d : Demanded) : Type 0 where
  pub edge : Edge
  pub is_tree : IsTreeIn g edge f
  pub target : edge.target ≡ v
  pub demanded : d ≡ demanded_at (expression_of u g given) g edge.position

-- A vertex stands in a tree, with these vertices above it up to the one that heads the tree, with these children, and this is
-- demanded of it.
abbrev pub Stands : List Edge → List Vertex → Vertex → Forest → Demanded → Type 0
Stands live [] v f d = (class live v ≡ Inner → ⊥) × StandsUnder live v f × (d ≡ alone)
Stands live (u ∷ us) v f d = (g : Forest) × (given : Demanded) × Stands live us u g given × IsChild u g given v f d

-- what marking says of a vertex of the graph with these live edges
pub record IsKeptOf (live : List Edge) (v : Vertex) (kept : Kept) : Type 0 where
  pub above : List Vertex
  pub forest : Forest
  pub demanded : Demanded
  pub stands : Stands live above v forest demanded
  pub is : kept ≡ kept_of v forest demanded

-- ---- records of vertices

-- for each vertex what is kept of it, if anything is
abbrev pub Records : Type 0
Records = Vertex → Option Kept

-- of each vertex of the graph is kept what marking says of it, and nothing of others
pub record AreKept (g : Graph) (live : List Edge) (records : Records) : Type 0 where
  pub each : (v : Vertex) → IsVertexOf g v → (kept : Kept) × (records v ≡ Some kept) × IsKeptOf live v kept
  pub no_other : (v : Vertex) → (IsVertexOf g v → ⊥) → records v ≡ None

-- the children of a vertex: the edges to them with the classes of their targets, which tell trees from references
abbrev pub children_in : List Edge → Vertex → List (Edge × Class)
children_in live v = map (λ e. (e, class live e.target)) (edges_under live v)

-- the record of a vertex: what marking says of it, and its children
pub record IsRecordOf (live : List Edge) (v : Vertex) (kept : Kept) (children : List (Edge × Class)) : Type 0 where
  pub marked : IsKeptOf live v kept
  pub children_are : children ≡ children_in live v
