-- What stands at the positions of a vertex, where it is one tree: types, and the names of patterns.
use Rattle.std.specs.Prelude.{ℕ, zero, suc, List, [], ◌∷◌, Option, None, Some, if◌then◌else◌}
use Rattle.grove_sorts.specs.declared.ident.Ident.{Ident}
use Rattle.grove_sorts.specs.declared.ctor.Ctor.{Ctor}
use Rattle.grove_sorts.specs.declared.ctor.Ctor.TheVariants.{PVar}
use Rattle.grove_sorts.specs.declared.position.Position.{Position}
use Rattle.grove_sorts.specs.declared.sort.Sort.{Sort}
use Rattle.grove_sorts.specs.Row.{Binds, Makes, makes_none, makes_number, makes_truth, makes_function, makes_product, makes_sum, row}
use Rattle.grove_sorts.specs.Ctor.{positions}
use Rattle.grove_sorts.specs.Position.{is_same_position}
use Rattle.grove_terms.specs.Forest.{Forest, none, multi_ref, cycle_ref, tree}
use Rattle.grove_terms.specs.Nodes.{count_at}
use Rattle.type_core.specs.declared.former.Former.TheVariants.{Arrow, Product, Sum}
use Rattle.type_core.specs.Typ.{Typ, Unknown, Num, Boolean, Pair}
use Rattle.mark_step.specs.Expression.{Bound}

-- what an only child gives, and else something given
abbrev pub if_sole : {T : Type 0} → ℕ → T → T → T
if_sole zero found other = other
if_sole (suc zero) found other = found
if_sole (suc (suc _)) found other = other

-- the type that a row of the table makes of two types
abbrev pub type_of_two : Makes → Typ → Typ → Typ
type_of_two makes_none first second = Unknown
type_of_two makes_number first second = Num
type_of_two makes_truth first second = Boolean
type_of_two makes_function first second = Pair Arrow first second
type_of_two makes_product first second = Pair Product first second
type_of_two makes_sum first second = Pair Sum first second

-- the type at the first of some positions, unknown where there is none
abbrev pub at_first : List (Position × Sort) → (Position → Typ) → Typ
at_first [] at = Unknown
at_first (p ∷ _) at = at p.0

-- the type at the second of them
abbrev pub at_second : List (Position × Sort) → (Position → Typ) → Typ
at_second [] at = Unknown
at_second (p ∷ []) at = Unknown
at_second (p ∷ q ∷ _) at = at q.0

-- the type that a constructor of types makes of the types at its positions
abbrev pub type_made : Ctor → (Position → Typ) → Typ
type_made ctor at = type_of_two (row ctor).makes (at_first (positions ctor) at) (at_second (positions ctor) at)

-- the type of the tree that is a child at a position; a reference has none
abbrev pub child_type : Forest → Position → Typ
child_type none p = Unknown
child_type (multi_ref e rest) p = child_type rest p
child_type (cycle_ref e rest) p = child_type rest p
child_type (tree e below rest) p =
    if is_same_position e.position p then type_made e.target.ctor (λ q. if_sole (count_at below q) (child_type below q) Unknown) else child_type rest p

-- the type of a type position: that of the tree there, where it is an only child, and else unknown
abbrev pub type_in : Forest → Position → Typ
type_in f p = if_sole (count_at f p) (child_type f p) Unknown

-- the type of a tree of types
abbrev pub tree_type : Ctor → Forest → Typ
tree_type ctor f = type_made ctor (type_in f)

-- a pattern of a variable alone has a name
abbrev pub pattern_name : Ctor → Option Ident
pattern_name (PVar x) = Some x
pattern_name _ = None

-- the name of the pattern that is a child at a position; a reference has none
abbrev pub child_name : Forest → Position → Option Ident
child_name none p = None
child_name (multi_ref e rest) p = child_name rest p
child_name (cycle_ref e rest) p = child_name rest p
child_name (tree e below rest) p = if is_same_position e.position p then pattern_name e.target.ctor else child_name rest p

-- the name of a param position: that of the pattern there, where it is an only child and a tree
abbrev pub name_in : Forest → Position → Option Ident
name_in f p = if_sole (count_at f p) (child_name f p) None

abbrev pub nothing_bound : Bound
nothing_bound = record { name = None; typ = Unknown; second = None }

-- the name at a position, if the row says where
abbrev pub name_at : Option Position → (Position → Option Ident) → Option Ident
name_at None names = None
name_at (Some p) names = names p

-- the type at a position, if the row says where
abbrev pub typ_at : Option Position → (Position → Typ) → Typ
typ_at None types = Unknown
typ_at (Some p) types = types p

-- what a row of the table binds where these names and types stand at its positions
abbrev pub bound_at : Binds → (Position → Option Ident) → (Position → Typ) → Bound
bound_at binds names types = record { name = name_at binds.name names; typ = typ_at binds.typ types; second = name_at binds.second names }

-- what a vertex with these children binds
abbrev pub bound_in : Ctor → Forest → Bound
bound_in ctor f = bound_at (row ctor).binds (name_in f) (type_in f)

-- at what index a position stands in a row, and past its end where it does not stand there
abbrev pub index_in : List (Position × Sort) → Position → ℕ
index_in [] p = 0
index_in (q ∷ qs) p = if is_same_position q.0 p then 0 else suc (index_in qs p)
