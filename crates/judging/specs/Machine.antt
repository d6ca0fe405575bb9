-- The marking of the nodes of a tree, node by node: what is open when some nodes are taken, and which nodes are marked.
use Rattle.std.specs.Prelude.{ℕ, zero, suc, List, [], ◌∷◌, ◌++◌, length, Option, None, Some, if◌then◌else◌}
use Rattle.std.specs.List.{slice_index_or}
use Rattle.grove_sorts.specs.declared.ident.Ident.{Ident}
use Rattle.grove_sorts.specs.declared.ctor.Ctor.{Ctor}
use Rattle.grove_sorts.specs.declared.position.Position.{Position}
use Rattle.grove_sorts.specs.declared.sort.Sort.{Sort}
use Rattle.grove_sorts.specs.declared.sort.Sort.TheVariants.{Top, Exp, Pat, Typ as TypeSort}
use Rattle.grove_sorts.specs.Row.{row}
use Rattle.grove_sorts.specs.Ctor.{positions, sort_of_ctor}
use Rattle.grove_terms.specs.declared.node.Node.{Node}
use Rattle.grove_terms.specs.declared.node.What.{What}
use Rattle.grove_terms.specs.declared.node.What.TheVariants.{Vertex, Hole, Conflict, MultiRef, CycleRef}
use Rattle.type_core.specs.Typ.{Typ, Unknown}
use Rattle.mark_step.specs.declared.node.Mark.{Mark}
use Rattle.mark_step.specs.declared.node.Mark.TheVariants as mark
use Rattle.mark_step.specs.Expression.{Wanted, Synthesise, Bound, Expression, Demanded, Marked}
use Rattle.mark_step.specs.Step.{demand, settled}
use Rattle.mark_step.specs.Rows.{is_exp}
use Rattle.marking.specs.Types.{type_of_two, pattern_name, bound_at, index_in}
use Rattle.marking.specs.Marking.{MarkedNode, marked_plain, synthesised_in}

-- what a child gives to the vertex that it stands under: its type, unknown where it has none, and its name, where it is a pattern with one
pub record Given : Type 0 where
  pub typ : Typ
  pub name : Option Ident

abbrev pub nothing : Given
nothing = record { typ = Unknown; name = None }

abbrev pub of_type : Typ → Given
of_type t = record { typ = t; name = None }

abbrev pub of_name : Option Ident → Given
of_name x = record { typ = Unknown; name = x }

-- a vertex of which some positions are marked: how it is judged, and what these positions gave, in table order
pub record Opened : Type 0 where
  pub ctor : Ctor
  pub demanded : Demanded
  pub given : List Given

-- an open vertex with the place of its node, the position that comes next and those behind it, or a conflict with what is demanded of its
-- children, and how many of them are left
pub data Frame : Type 0 where
  Of : (place : ℕ) → (vertex : Opened) → (next : Position × Sort) → (left : List (Position × Sort)) → Frame
  Several : (demanded : Demanded) → (left : ℕ) → Frame

-- what is open, innermost first, and the nodes so far
pub record State : Type 0 where
  pub frames : List Frame
  pub out : List MarkedNode

abbrev pub at : List Frame → List MarkedNode → State
at frames out = record { frames = frames; out = out }

-- ---- a vertex, by what its positions gave

-- what the position with an index in the row gave
abbrev pub gave : List Given → ℕ → Given
gave given index = slice_index_or given index nothing

-- what a vertex binds: what its row says, as its positions gave it
abbrev pub bound_by : Ctor → List Given → Bound
bound_by ctor given = bound_at (row ctor).binds (λ p. (gave given (index_in (positions ctor) p)).name) (λ p. (gave given (index_in (positions ctor) p)).typ)

-- the type that a constructor makes of the types at its first positions
abbrev pub made : Ctor → Typ → Typ → Typ
made ctor first second = type_of_two (row ctor).makes first second

abbrev pub made_of : Ctor → List Given → Typ
made_of ctor given = made ctor (gave given 0).typ (gave given 1).typ

-- the types of the expressions at some positions, the first of which gave this
abbrev pub types_given : List (Position × Sort) → List Given → List Typ
types_given [] given = []
types_given (p ∷ ps) [] = []
types_given (p ∷ ps) (g ∷ given) = if is_exp p.1 then (g.typ ∷ types_given ps given) else types_given ps given

-- the types of the expressions so far
abbrev pub before_of : Opened → List Typ
before_of v = types_given (positions v.ctor) v.given

-- the expression that an open vertex is, as far as it is known
abbrev pub expression_of : Opened → Expression
expression_of v = record { ctor = v.ctor; scope = v.demanded.scope; wanted = v.demanded.wanted; bound = bound_by v.ctor v.given }

abbrev pub given_by_sort : Sort → Opened → Given
given_by_sort Exp v = of_type (settled (expression_of v) (before_of v)).typ
given_by_sort TypeSort v = of_type (made_of v.ctor v.given)
given_by_sort Pat v = of_name (pattern_name v.ctor)
given_by_sort Top v = nothing

-- what a vertex gives once its positions are marked
abbrev pub given_of : Opened → Given
given_of v = given_by_sort (sort_of_ctor v.ctor) v

-- what marking adds to the node of a vertex
pub record Added : Type 0 where
  pub wanted : Option Wanted
  pub typ : Option Typ
  pub mark : Mark

abbrev pub nothing_added : Added
nothing_added = record { wanted = None; typ = None; mark = mark.None }

abbrev pub type_added : Typ → Added
type_added t = record { wanted = None; typ = Some t; mark = mark.None }

abbrev pub expression_added : Wanted → Marked → Added
expression_added w m = record { wanted = Some w; typ = Some m.typ; mark = m.mark }

abbrev pub added_by_sort : Sort → Opened → Added
added_by_sort Exp v = expression_added v.demanded.wanted (settled (expression_of v) (before_of v))
added_by_sort TypeSort v = type_added (made_of v.ctor v.given)
added_by_sort Pat v = nothing_added
added_by_sort Top v = nothing_added

-- what is added to its node once its positions are marked
abbrev pub added_of : Opened → Added
added_of v = added_by_sort (sort_of_ctor v.ctor) v

abbrev pub with_added : Added → Node → MarkedNode
with_added a n = record { node = n; wanted = a.wanted; typ = a.typ; mark = a.mark }

-- the nodes, with what is added to the one at a place
abbrev pub add_at : Added → List MarkedNode → ℕ → List MarkedNode
add_at a [] place = []
add_at a (m ∷ ms) zero = with_added a m.node ∷ ms
add_at a (m ∷ ms) (suc place) = m ∷ add_at a ms place

-- the node of an open vertex, which is not marked yet
abbrev pub unsettled : Node → MarkedNode
unsettled n = with_added nothing_added n

-- a vertex none of whose positions is marked
abbrev pub fresh : Ctor → Demanded → Opened
fresh ctor d = record { ctor = ctor; demanded = d; given = [] }

-- the vertex after its next position gave something
abbrev pub filled : Given → Opened → Opened
filled g v = record { ctor = v.ctor; demanded = v.demanded; given = v.given ++ g ∷ [] }

-- what is demanded of a child at a position for this sort
abbrev pub demanded_by : Opened → Sort → Demanded
demanded_by v Exp = demand (expression_of v) (before_of v)
demanded_by v _ = record { scope = v.demanded.scope; wanted = Synthesise }

-- what is demanded of the next node where this is the innermost frame
abbrev pub demanded_in : Frame → Demanded
demanded_in (Of place v p ps) = demanded_by v p.1
demanded_in (Several d n) = d

-- what is demanded of the next node, which is the head of the tree where nothing is open
abbrev pub demanded_next : List Frame → Demanded
demanded_next [] = record { scope = []; wanted = Synthesise }
demanded_next (f ∷ frames) = demanded_in f

-- ---- what is given goes to the innermost frame, and where that is whole, what it gives to the next

abbrev pub deliver : Given → List Frame → List MarkedNode → State
deliver g [] out = at [] out
deliver g (Of place v p [] ∷ frames) out = deliver (given_of (filled g v)) frames (add_at (added_of (filled g v)) out place)
deliver g (Of place v p (q ∷ qs) ∷ frames) out = at (Of place (filled g v) q qs ∷ frames) out
deliver g (Several d zero ∷ frames) out = deliver nothing frames out
deliver g (Several d (suc zero) ∷ frames) out = deliver nothing frames out
deliver g (Several d (suc (suc n)) ∷ frames) out = at (Several d (suc n) ∷ frames) out

-- a vertex with these positions left, whose node stands at a place
abbrev pub opened : ℕ → Opened → List (Position × Sort) → List Frame → List MarkedNode → State
opened place v [] frames out = deliver (given_of v) frames (add_at (added_of v) out place)
opened place v (p ∷ ps) frames out = at (Of place v p ps ∷ frames) out

-- ---- a node is taken

abbrev pub taken : What → Node → Demanded → List Frame → List MarkedNode → State
taken (Vertex v) n d frames out = opened (length out) (fresh v.ctor d) (positions v.ctor) frames (out ++ unsettled n ∷ [])
taken (Hole s) n d frames out = deliver nothing frames (out ++ marked_plain s d.wanted n ∷ [])
taken (Conflict s count) n d frames out = at (Several (synthesised_in d) count ∷ frames) (out ++ marked_plain s d.wanted n ∷ [])
taken (MultiRef v) n d frames out = deliver nothing frames (out ++ marked_plain (sort_of_ctor v.ctor) d.wanted n ∷ [])
taken (CycleRef v) n d frames out = deliver nothing frames (out ++ marked_plain (sort_of_ctor v.ctor) d.wanted n ∷ [])

abbrev pub step : State → Node → State
step s n = taken n.what n (demanded_next s.frames) s.frames s.out

abbrev pub run : State → List Node → State
run s [] = s
run s (n ∷ ns) = run (step s n) ns
