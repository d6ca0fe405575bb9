-- Trees of the tests.
use Rattle.std.proofs.Common.{◌≡◌, ℕ, List, [], ◌∷◌, refl, ap, ◌∙◌, arith}
use Rattle.grove_sorts.specs.declared.ctor.Ctor.{Ctor}
use Rattle.grove_sorts.specs.declared.ctor.Ctor.TheVariants.{Plus, Num, Var}
use Rattle.grove_sorts.specs.declared.ident.Ident.{Ident}
use Rattle.grove_sorts.specs.declared.position.Position.{Position}
use Rattle.grove_sorts.specs.declared.position.Position.TheVariants.{Left, Right}
use Rattle.grove_edits.specs.declared.vertex.Vertex.{Vertex}
use Rattle.grove_edits.specs.declared.edge.Edge.{Edge}
use Rattle.grove_terms.specs.declared.node.Node.{Node}
use Rattle.grove_terms.specs.Forest.{Forest, none, tree, IsWellSorted}

abbrev pub vertex : ℕ → Ctor → Vertex
vertex counter ctor = record { name = record { author = 1; counter = counter }; ctor = ctor }

abbrev pub sum : Vertex
sum = vertex 1 Plus

abbrev pub edge : ℕ → Position → ℕ → Ctor → Edge
edge counter position target ctor = record { name = record { author = 1; counter = counter }; source = sum; position = position; target = vertex target ctor }

-- a sum of two numbers
abbrev pub numbers : Forest
numbers = tree (edge 2 Left 3 (Num 1)) none (tree (edge 6 Right 7 (Num 3)) none none)

pub numbers_sorted : IsWellSorted sum numbers
numbers_sorted = (record { well_formed = refl; source = refl; in_table_order = (omega arith, tt) }, tt, (record { well_formed = refl; source = refl; in_table_order = tt }, tt, tt))

-- a sum of a number and a variable
abbrev pub with_variable : Ident → Forest
with_variable x = tree (edge 2 Left 3 (Num 1)) none (tree (edge 6 Right 7 (Var x)) none none)

pub variable_sorted : (x : Ident) → IsWellSorted sum (with_variable x)
variable_sorted x = (record { well_formed = refl; source = refl; in_table_order = (omega arith, tt) }, tt, (record { well_formed = refl; source = refl; in_table_order = tt }, tt, tt))

-- ---- the nodes of a test are those of a tree

pub two_under : (t : List Node) (g a b h x y : Node) → t ≡ g ∷ a ∷ b ∷ [] → g ≡ h → a ≡ x → b ≡ y → t ≡ h ∷ x ∷ y ∷ []
two_under t g a b h x y is head first second = is ∙ ap (λ n. n ∷ a ∷ b ∷ []) head ∙ ap (λ n. h ∷ n ∷ b ∷ []) first ∙ ap (λ n. h ∷ x ∷ n ∷ []) second
