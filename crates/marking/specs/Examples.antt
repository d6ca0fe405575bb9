-- Trees that are marked by hand.
use Rattle.std.specs.Prelude.{ℕ, List, Option, map}
use Rattle.grove_sorts.specs.declared.ident.Ident.{Ident}
use Rattle.grove_sorts.specs.declared.ctor.Ctor.{Ctor}
use Rattle.grove_sorts.specs.declared.ctor.Ctor.TheVariants.{Root, Var, Lam, Num, Plus, LitTrue, Choose, PVar, TNum, Let, Inr, Case}
use Rattle.grove_sorts.specs.declared.position.Position.{Position}
use Rattle.grove_sorts.specs.declared.position.Position.TheVariants.{Main, Param, Annot, Def, Body, Left, Right, Test, WhenTrue, WhenFalse, Operand, On, LeftParam, LeftBody, RightParam, RightBody}
use Rattle.grove_edits.specs.declared.vertex.Vertex.{Vertex}
use Rattle.grove_edits.specs.declared.edge.Edge.{Edge}
use Rattle.grove_terms.specs.Forest.{Forest, none, multi_ref, tree}
use Rattle.type_core.specs.Typ.{Typ}
use Rattle.mark_step.specs.declared.node.Mark.{Mark}
use Rattle.mark_step.specs.Expression.{Wanted}
use Rattle.marking.specs.Marking.{MarkedNode}

abbrev pub vertex : ℕ → Ctor → Vertex
vertex counter ctor = record { name = record { author = 1; counter = counter }; ctor = ctor }

-- an edge with the name of its target
abbrev pub edge : Vertex → Position → Vertex → Edge
edge source position target = record { name = target.name; source = source; position = position; target = target }

-- a child without children, and those after it
abbrev pub leaf : Vertex → Position → ℕ → Ctor → Forest → Forest
leaf source position counter ctor rest = tree (edge source position (vertex counter ctor)) none rest

abbrev pub program : Vertex
program = vertex 0 Root

abbrev pub sum : Vertex
sum = vertex 1 Plus

abbrev pub function : Vertex
function = vertex 1 Lam

abbrev pub conditional : Vertex
conditional = vertex 2 Choose

-- 1 + x, in the program
abbrev pub free_variable : Ident → Forest
free_variable x = tree (edge program Main sum) (leaf sum Left 2 (Num 1) (leaf sum Right 3 (Var x) none)) none

-- a sum with 1 and 2 at its left, and nothing at its right
abbrev pub conflict : Forest
conflict = leaf sum Left 2 (Num 1) (leaf sum Left 3 (Num 2) none)

-- a sum of a conditional whose second branch is a truth value, and of a reference to a number that has another parent
abbrev pub branches : Forest
branches =
    tree (edge sum Left conditional) (leaf conditional Test 3 LitTrue (leaf conditional WhenTrue 4 (Num 1) (leaf conditional WhenFalse 5 LitTrue none)))
    (multi_ref (edge sum Right (vertex 6 (Num 2))) none)

-- a function from numbers with its parameter as its body
abbrev pub identity : Ident → Forest
identity x = leaf function Param 2 (PVar x) (leaf function Annot 3 TNum (leaf function Body 4 (Var x) none))

-- the same with two patterns at its parameter
abbrev pub two_parameters : Ident → Forest
two_parameters x = leaf function Param 2 (PVar x) (leaf function Param 5 (PVar x) (leaf function Annot 3 TNum (leaf function Body 4 (Var x) none)))

abbrev pub definition : Vertex
definition = vertex 1 Let

-- a name defined as 7, in a body that is the name
abbrev pub defined : Ident → Forest
defined x = leaf definition Param 2 (PVar x) (leaf definition Def 3 (Num 7) (leaf definition Body 4 (Var x) none))

abbrev pub analysis : Vertex
analysis = vertex 1 Case

abbrev pub injection : Vertex
injection = vertex 2 Inr

-- a case on 7 at the right of a sum, with its right parameter as its right body
abbrev pub case_on_right : Ident → Ident → Ctor → Forest
case_on_right x y left =
    tree (edge analysis On injection) (leaf injection Operand 3 (Num 7) none)
    (leaf analysis LeftParam 4 (PVar x) (leaf analysis LeftBody 5 left (leaf analysis RightParam 6 (PVar y) (leaf analysis RightBody 7 (Var y) none))))

-- a sum with an injection of nothing at its left, and nothing at its right
abbrev pub injected : Forest
injected = tree (edge sum Left injection) none none

-- what a node shows: what is wanted of it, its type and its mark
abbrev pub Shown : Type 0
Shown = Option Wanted × Option Typ × Mark

abbrev pub shown : List MarkedNode → List Shown
shown ms = map (λ m. (m.wanted, m.typ, m.mark)) ms
