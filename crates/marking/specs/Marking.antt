-- Marked trees: with each node what is wanted of it, its type and its mark.
-- The promise of the commands rests on these definitions.
use Rattle.std.specs.Prelude.{◌≡◌, ℕ, zero, suc, ◌+◌, false, List, [], ◌∷◌, ◌++◌, Option, Some, None, if◌then◌else◌}
use Rattle.std.specs.List.{AllByRecursion}
use Rattle.grove_sorts.specs.declared.position.Position.{Position}
use Rattle.grove_sorts.specs.declared.sort.Sort.{Sort}
use Rattle.grove_sorts.specs.declared.sort.Sort.TheVariants.{Top, Exp, Pat, Typ as TypeSort}
use Rattle.grove_sorts.specs.declared.ctor.Ctor.{Ctor}
use Rattle.grove_sorts.specs.Ctor.{positions, sort_of_ctor}
use Rattle.grove_edits.specs.declared.vertex.Vertex.{Vertex as VertexOf}
use Rattle.grove_sorts.specs.Position.{is_same_position}
use Rattle.grove_terms.specs.declared.node.Node.{Node}
use Rattle.grove_terms.specs.declared.node.What.TheVariants.{Vertex, Hole, Conflict, MultiRef, CycleRef}
use Rattle.grove_terms.specs.Forest.{Forest, none, multi_ref, cycle_ref, tree}
use Rattle.grove_terms.specs.Nodes.{node_at, child_node, head_node, count_at}
use Rattle.type_core.specs.Typ.{Typ, Unknown}
use Rattle.mark_step.specs.declared.node.Mark.{Mark}
use Rattle.mark_step.specs.declared.node.Mark.TheVariants as mark
use Rattle.mark_step.specs.Scope.{Scope}
use Rattle.mark_step.specs.Expression.{Wanted, Synthesise, Expression, Demanded, Marked}
pub use Rattle.mark_step.specs.Expression.{has_mark}
use Rattle.mark_step.specs.Step.{demand, settled}
use Rattle.mark_step.specs.Rows.{is_exp}
use Rattle.marking.specs.Types.{if_sole, tree_type, bound_in}

-- a node with what is wanted of it, where it is an expression, its type, where it has one, and its mark
pub record MarkedNode : Type 0 where
  pub node : Node
  pub wanted : Option Wanted
  pub typ : Option Typ
  pub mark : Mark

-- no node has a mark
abbrev pub HasNoMark : List MarkedNode → Type 0
HasNoMark ms = AllByRecursion (λ m. has_mark m.mark ≡ false) ms

-- ---- the types of expressions

-- the expression at a vertex with these children
abbrev pub expression : Ctor → Scope → Wanted → Forest → Expression
expression ctor scope wanted f = record { ctor = ctor; scope = scope; wanted = wanted; bound = bound_in ctor f }

-- the types of the expressions at some positions, in order, each judged as is demanded after those before it
abbrev pub types_at : Expression → (Position → Demanded → Typ) → List (Position × Sort) → List Typ → List Typ
types_at e judge [] before = before
types_at e judge (p ∷ ps) before =
    if is_exp p.1 then types_at e judge ps (before ++ judge p.0 (demand e before) ∷ []) else types_at e judge ps before

-- the type of the tree that is a child at a position, judged so; a reference's is unknown
abbrev pub judged_child : Forest → Position → Demanded → Typ
judged_child none p d = Unknown
judged_child (multi_ref e rest) p d = judged_child rest p d
judged_child (cycle_ref e rest) p d = judged_child rest p d
judged_child (tree e below rest) p d =
    if is_same_position e.position p then
    (let x = expression e.target.ctor d.scope d.wanted below in
    (settled x (types_at x (λ q demanded. if_sole (count_at below q) (judged_child below q demanded) Unknown) (positions e.target.ctor) [])).typ)
    else judged_child rest p d

-- the type of an expression position: that of an only child, and unknown where there is none or a conflict
abbrev pub judged_in : Forest → Position → Demanded → Typ
judged_in f p d = if_sole (count_at f p) (judged_child f p d) Unknown

-- the types of the expressions among the children, in table order
abbrev pub children_types : Expression → Forest → List Typ
children_types e f = types_at e (judged_in f) (positions e.ctor) []

-- ---- nodes with their marks

-- a node that has no child, or a conflict: what is wanted of an expression, and the unknown type of an expression or a type
abbrev pub marked_plain : Sort → Wanted → Node → MarkedNode
marked_plain Exp w node = record { node = node; wanted = Some w; typ = Some Unknown; mark = mark.None }
marked_plain TypeSort w node = record { node = node; wanted = None; typ = Some Unknown; mark = mark.None }
marked_plain Pat w node = record { node = node; wanted = None; typ = None; mark = mark.None }
marked_plain Top w node = record { node = node; wanted = None; typ = None; mark = mark.None }

abbrev pub marked_expression : Wanted → Marked → Node → MarkedNode
marked_expression w m node = record { node = node; wanted = Some w; typ = Some m.typ; mark = m.mark }

-- the node of a vertex of a sort, with these children
abbrev pub marked_vertex : Sort → Expression → Forest → Node → MarkedNode
marked_vertex Exp e f node = marked_expression e.wanted (settled e (children_types e f)) node
marked_vertex TypeSort e f node = record { node = node; wanted = None; typ = Some (tree_type e.ctor f); mark = mark.None }
marked_vertex Pat e f node = record { node = node; wanted = None; typ = None; mark = mark.None }
marked_vertex Top e f node = record { node = node; wanted = None; typ = None; mark = mark.None }

-- what is demanded where a conflict stands: each child synthesises
abbrev pub synthesised_in : Demanded → Demanded
synthesised_in d = record { scope = d.scope; wanted = Synthesise }

-- the nodes of a position at which so many children stand, judged so
abbrev pub marked_place : ℕ → (ℕ → Demanded → List MarkedNode) → ℕ → Position → Sort → Demanded → List MarkedNode
marked_place zero children depth p sort d = marked_plain sort d.wanted (node_at depth p (Hole sort)) ∷ []
marked_place (suc zero) children depth p sort d = children depth d
marked_place (suc (suc n)) children depth p sort d = marked_plain sort d.wanted (node_at depth p (Conflict sort (suc (suc n)))) ∷ children (depth + 1) (synthesised_in d)

-- the nodes of some positions, in order, after expressions of these types
abbrev pub marked_places : Expression → (Position → ℕ) → (ℕ → Position → Demanded → List MarkedNode) → (Position → Demanded → Typ) → ℕ → List (Position × Sort) → List Typ → List MarkedNode
marked_places e counts children judge depth [] before = []
marked_places e counts children judge depth (p ∷ ps) before =
    marked_place (counts p.0) (λ at d. children at p.0 d) depth p.0 p.1 (demand e before)
    ++ marked_places e counts children judge depth ps (if is_exp p.1 then (before ++ judge p.0 (demand e before) ∷ []) else before)

-- the nodes of the children at a position, judged so, each with what stands under it
abbrev pub marked_children : Forest → ℕ → Position → Demanded → List MarkedNode
marked_children none depth p d = []
marked_children (multi_ref e rest) depth p d =
    if is_same_position e.position p then
    (marked_plain (sort_of_ctor e.target.ctor) d.wanted (child_node depth p e (MultiRef e.target)) ∷ marked_children rest depth p d)
    else marked_children rest depth p d
marked_children (cycle_ref e rest) depth p d =
    if is_same_position e.position p then
    (marked_plain (sort_of_ctor e.target.ctor) d.wanted (child_node depth p e (CycleRef e.target)) ∷ marked_children rest depth p d)
    else marked_children rest depth p d
marked_children (tree e below rest) depth p d =
    if is_same_position e.position p then
    (let x = expression e.target.ctor d.scope d.wanted below in
    marked_vertex (sort_of_ctor e.target.ctor) x below (child_node depth p e (Vertex e.target))
    ∷ (marked_places x (count_at below) (marked_children below) (judged_in below) (depth + 1) (positions e.target.ctor) [] ++ marked_children rest depth p d))
    else marked_children rest depth p d

-- how the head of a tree is judged: by itself, in no scope
abbrev pub by_itself : Ctor → Forest → Expression
by_itself ctor f = expression ctor [] Synthesise f

-- the nodes of a tree
abbrev pub marked_tree : VertexOf → Forest → List MarkedNode
marked_tree v f =
    marked_vertex (sort_of_ctor v.ctor) (by_itself v.ctor f) f (head_node v)
    ∷ marked_places (by_itself v.ctor f) (count_at f) (marked_children f) (judged_in f) 1 (positions v.ctor) []
