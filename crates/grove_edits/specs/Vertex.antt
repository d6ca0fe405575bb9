-- What vertices are well formed, and their order.
-- The promise of the commands rests on these definitions.
use Rattle.std.specs.Prelude.{ℕ, ◌<◌, ◌^◌, Bool, true, false, ◌&&◌, ◌||◌, ◌==◌, nat_lt, List, [], ◌∷◌, if◌then◌else◌}
use Rattle.std.specs.declared.cmp.Ordering.{Ordering}
use Rattle.std.specs.Ordering.{ordering_then, is_eq}
use Rattle.grove_names.specs.Name.{name_cmp}
use Rattle.grove_sorts.specs.declared.ctor.Ctor.{Ctor}
use Rattle.grove_sorts.specs.declared.ctor.Ctor.TheVariants.{Root, Num}
use Rattle.grove_sorts.specs.Ctor.{ctor_cmp}
use Rattle.grove_edits.specs.declared.vertex.Vertex.{Vertex}

abbrev pub is_root : Ctor → Bool
is_root Root = true
is_root _ = false

-- the vertex `0.0 root`
abbrev pub root : Vertex
root = record { name = record { author = 0; counter = 0 }; ctor = Root }

-- the number that a constructor carries, where it is a literal
abbrev pub literal : Ctor → ℕ
literal (Num n) = n
literal _ = 0

-- the vertex `0.0 root`, or one that an author named, and then no root
abbrev pub is_vertex : Vertex → Bool
is_vertex v =
    if is_root v.ctor then (v.name.author == 0) && (v.name.counter == 0)
    else nat_lt 0 v.name.author && nat_lt 0 v.name.counter

-- the numbers lie in their ranges, as those of every vertex of the program do
abbrev pub VertexInRange : Vertex → Type 0
VertexInRange v = (v.name.author < 2 ^ 32) × (v.name.counter < 2 ^ 64) × (literal v.ctor < 2 ^ 64)

-- vertices are ordered by name, then constructor
abbrev pub vertex_cmp : Vertex → Vertex → Ordering
vertex_cmp a b = ordering_then (name_cmp a.name b.name) (ctor_cmp a.ctor b.ctor)

abbrev pub is_same_vertex : Vertex → Vertex → Bool
is_same_vertex a b = is_eq (vertex_cmp a b)

abbrev pub stands_in : Vertex → List Vertex → Bool
stands_in v [] = false
stands_in v (x ∷ xs) = is_same_vertex x v || stands_in v xs
