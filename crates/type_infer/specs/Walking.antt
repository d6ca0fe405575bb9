-- The equations of a list of nodes in preorder, node by node. Each place that is to come stands on a list, the next one first, and tells
-- which name it is bound by.
use Rattle.std.specs.Prelude.{ℕ, ◌+◌, ◌*◌, ◌/◌, List, [], ◌∷◌, ◌++◌, length, drop, replicate, Option, None, Some, slice_get, if◌then◌else◌}
use Rattle.std.specs.List.{slice_index_or}
use Rattle.grove_sorts.specs.declared.ident.Ident.{Ident}
use Rattle.grove_sorts.specs.declared.ctor.Ctor.{Ctor}
use Rattle.grove_sorts.specs.declared.ctor.Ctor.TheVariants.{Lam, Let, Case}
use Rattle.grove_sorts.specs.declared.position.Position.{Position}
use Rattle.grove_sorts.specs.declared.position.Position.TheVariants.{Param, Annot, Def, LeftParam, RightParam}
use Rattle.grove_sorts.specs.declared.sort.Sort.{Sort}
use Rattle.grove_sorts.specs.Ctor.{positions}
use Rattle.grove_sorts.specs.Position.{is_same_position}
use Rattle.grove_terms.specs.declared.node.Node.{Node}
use Rattle.grove_terms.specs.declared.node.What.{What}
use Rattle.grove_terms.specs.declared.node.What.TheVariants.{Vertex, Hole, Conflict, MultiRef, CycleRef}
use Rattle.type_infer.specs.declared.tree.Place.{Place}
use Rattle.type_infer.specs.declared.tree.Place.TheVariants.{Plain, Binding, End}
use Rattle.type_infer.specs.Terms.{Variable}
use Rattle.type_infer.specs.Equations.{TermEquation}
use Rattle.type_infer.specs.TreeEquations.{first_variable, second_variable, third_variable, Names, pattern_name, binder_of, form_equations}

-- ---- the lines right under a node

-- how many places stand right under a node
abbrev pub places_under : What → ℕ
places_under (Vertex v) = length (positions v.ctor)
places_under (Conflict sort count) = count
places_under _ = 0

-- the first variables of the lines, the nodes being listed from a line on, that stand under none of the others, in order
abbrev pub heads : List Node → ℕ → List ℕ
heads [] line = []
heads (n ∷ ns) line = first_variable line ∷ drop (places_under n.what) (heads ns (line + 1))

-- the first five of a list of variables
abbrev pub five : List ℕ → List ℕ
five vs = slice_index_or vs 0 0 ∷ slice_index_or vs 1 0 ∷ slice_index_or vs 2 0 ∷ slice_index_or vs 3 0 ∷ slice_index_or vs 4 0 ∷ []

-- the variable at a position, where these stand at some positions in order
abbrev pub at_position : List (Position × Sort) → List ℕ → Position → ℕ
at_position [] vs p = 0
at_position (q ∷ qs) [] p = 0
at_position (q ∷ qs) (v ∷ vs) p = if is_same_position q.0 p then v else at_position qs vs p

-- ---- names

-- the name that a node has as a pattern
abbrev pub name_of : What → Option Ident
name_of (Vertex v) = pattern_name v.ctor
name_of _ = None

abbrev pub name_in : Option Node → Option Ident
name_in None = None
name_in (Some n) = name_of n.what

-- the name of the line with a variable
abbrev pub name_at : List Node → ℕ → Option Ident
name_at nodes variable = name_in (slice_get nodes (variable / 3))

-- the places to come, and the names that stand for variables now
pub record Walk : Type 0 where
  pub places : List Place
  pub names : Names

abbrev pub walk : List Place → Names → Walk
walk places names = record { places = places; names = names }

abbrev pub without_first : Names → Names
without_first [] = []
without_first (b ∷ bs) = bs

-- a place with the name of a pattern, if it has one, and what ends its scope
abbrev pub named : Option Ident → ℕ → List Place → Names → Walk
named None variable places names = walk places names
named (Some x) variable places names = walk (End ∷ places) ((x, variable) ∷ names)

-- the next place is entered, and scopes that end before it are left
abbrev pub entered : (ℕ → Option Ident) → List Place → Names → Walk
entered find [] names = walk [] names
entered find (Plain ∷ places) names = walk places names
entered find (Binding pattern variable ∷ places) names = named (find pattern) variable places names
entered find (End ∷ places) names = entered find places (without_first names)

-- the places of a form, whose line has this first variable: a body is bound by the pattern before it
abbrev pub form_places : Ctor → (Position → ℕ) → ℕ → List Place
form_places Lam at x = Plain ∷ Plain ∷ Binding (at Param) (at Annot) ∷ []
form_places Let at x = Plain ∷ Plain ∷ Binding (at Param) (at Def) ∷ []
form_places Case at x = Plain ∷ Plain ∷ Binding (at LeftParam) (x + 1) ∷ Plain ∷ Binding (at RightParam) (x + 2) ∷ []
form_places ctor at x = replicate (length (positions ctor)) Plain

-- the places right under a node at a line, behind which these lines stand
abbrev pub node_places : What → List ℕ → ℕ → List Place
node_places (Vertex v) vs line = form_places v.ctor (at_position (positions v.ctor) (five vs)) (first_variable line)
node_places (Conflict sort count) vs line = replicate count Plain
node_places _ vs line = []

-- the equations of a node at a line, behind which these lines stand
abbrev pub node_equations : What → List ℕ → ℕ → Names → List TermEquation
node_equations (Vertex v) vs line names =
    form_equations v.ctor (λ p. Variable (at_position (positions v.ctor) (five vs) p))
    (Variable (first_variable line)) (Variable (second_variable line)) (Variable (third_variable line)) (binder_of names v.ctor)
node_equations _ vs line names = []

-- what is to come behind a node
abbrev pub behind : What → List ℕ → ℕ → Walk → Walk
behind what vs line now = walk (node_places what vs line ++ now.places) now.names

-- the equations of nodes that are listed from a line on
abbrev pub equations_from : (ℕ → Option Ident) → List Node → ℕ → Walk → List TermEquation
equations_from find [] line w = []
equations_from find (n ∷ ns) line w =
    node_equations n.what (heads ns (line + 1)) line (entered find w.places w.names).names
    ++ equations_from find ns (line + 1) (behind n.what (heads ns (line + 1)) line (entered find w.places w.names))

-- those of the nodes of a tree
abbrev pub list_equations : List Node → List TermEquation
list_equations nodes = equations_from (name_at nodes) nodes 0 (walk (Plain ∷ []) [])
