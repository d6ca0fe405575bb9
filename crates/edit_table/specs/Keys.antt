-- Inner model, which no public contract cites: vertices by keys, in which a constructor is told by its number.
use Rattle.std.specs.Prelude.{◌≡◌, ℕ, ◌<◌, ◌^◌, ◌++◌, Bool, false, nat_lt, List, [], ◌∷◌, Some, map, length, slice_get, slice_index_or, if◌then◌else◌}
use Rattle.std.specs.List.{AllByRecursion, IsDistinct}
use Rattle.grove_names.specs.declared.name.Name.{Name}
use Rattle.grove_sorts.specs.declared.plain.Plain.{Plain}
use Rattle.grove_sorts.specs.declared.ctor.Ctor.{Ctor}
use Rattle.grove_sorts.specs.declared.ctor.Ctor.TheVariants.{Root, Num}
use Rattle.grove_sorts.specs.Plain.{plain_ctor, plain_number, plains}
use Rattle.grove_edits.specs.declared.vertex.Vertex.{Vertex}
use Rattle.grove_edits.specs.Vertex.{is_same_vertex, stands_in}
use Rattle.edit_table.specs.declared.vertex_key.CtorKey.{CtorKey}
use Rattle.edit_table.specs.declared.vertex_key.CtorKey.TheVariants.{At, Short}
use Rattle.edit_table.specs.declared.vertex_key.VertexKey.{VertexKey}

-- the constructors that carry nothing, each at the index that is its number
abbrev pub plain_ctors : List Ctor
plain_ctors = map plain_ctor plains

-- the constructor with a number
abbrev pub ctor_at : List Ctor → ℕ → Ctor
ctor_at ctors n = slice_index_or ctors n Root

-- a literal that stands in a key itself
abbrev pub is_short : Ctor → Bool
is_short (Num n) = nat_lt n (2 ^ 32)
is_short _ = false

-- the constructor that a key stands for
abbrev pub ctor_of : List Ctor → CtorKey → Ctor
ctor_of ctors (At n) = ctor_at ctors n
ctor_of ctors (Short n) = Num n

-- the vertex that a key stands for
abbrev pub vertex_of : List Ctor → VertexKey → Vertex
vertex_of ctors key = record { name = key.name; ctor = ctor_of ctors key.ctor }

-- the vertices that keys stand for, in order
abbrev pub vertices_of : List Ctor → List VertexKey → List Vertex
vertices_of ctors keys = map (vertex_of ctors) keys

-- the key of a vertex whose constructor carries nothing
abbrev pub plain_key : Name → Plain → VertexKey
plain_key name plain = record { name = name; ctor = At (plain_number plain) }

-- the key of the root
abbrev pub root_key : VertexKey
root_key = record { name = record { author = 0; counter = 0 }; ctor = At 0 }

-- a list begins with what it was before
abbrev pub BeginsWith : {X : Type 0} → List X → List X → Type 0
BeginsWith {X} after before = (more : List X) × (after ≡ before ++ more)

-- no constructor has two numbers
abbrev pub StandOnce : List Ctor → Type 0
StandOnce ctors = (m n : ℕ) (c : Ctor) → slice_get ctors m ≡ Some c → slice_get ctors n ≡ Some c → m ≡ n

-- the constructor of a key was met, or is a short literal
abbrev pub IsMet : List Ctor → CtorKey → Type 0
IsMet ctors (At n) = n < length ctors
IsMet ctors (Short n) = n < 2 ^ 32

abbrev pub HasCtor : List Ctor → VertexKey → Type 0
HasCtor ctors key = IsMet ctors key.ctor

-- the key is that of a constructor
abbrev pub IsCtorKeyOf : List Ctor → CtorKey → Ctor → Type 0
IsCtorKeyOf ctors key ctor = IsMet ctors key × (ctor_of ctors key ≡ ctor)

-- the constructors begin with those that carry nothing, none stands twice, and none is a short literal
pub record AreCtors (ctors : List Ctor) : Type 0 where
  pub begin : BeginsWith ctors plain_ctors
  pub once : StandOnce ctors
  pub long : AllByRecursion (λ ctor. is_short ctor ≡ false) ctors

-- the keys are those of vertices, each of which stands once, and the root first
pub record AreKeys (ctors : List Ctor) (keys : List VertexKey) : Type 0 where
  pub ctors_are : AreCtors ctors
  pub have_ctors : AllByRecursion (HasCtor ctors) keys
  pub once : IsDistinct is_same_vertex (vertices_of ctors keys)
  pub few : length keys < 2 ^ 32
  pub first : slice_get keys 0 ≡ Some root_key

-- the list with a vertex, which goes last where it does not stand there yet
abbrev pub with_vertex : Vertex → List Vertex → List Vertex
with_vertex v vertices = if stands_in v vertices then vertices else vertices ++ v ∷ []
