-- What a map by vertex has: the value of each vertex that has one, and which vertices have room.
use Rattle.std.specs.Prelude.{Bool, true, List, map, Option, None, Some, is_some, unwrap_or, IsSome}
use Rattle.std.specs.Map.{lookup}
use Rattle.grove_edits.specs.declared.vertex.Vertex.{Vertex}
use Rattle.grove_edits.specs.Vertex.{is_same_vertex}

-- the vertices that have room, each with its value, if it has one
abbrev pub Places : Type 0 → Type 0
Places V = List (Vertex × Option V)

abbrev pub place_at : {V : Type 0} → Places V → Vertex → Option (Option V)
place_at places v = lookup (is_same_vertex v) places

-- the value of a vertex, if it has one
abbrev pub value_at : {V : Type 0} → Places V → Vertex → Option V
value_at places v = unwrap_or (place_at places v) None

-- a value of the vertex can be put without memory
abbrev pub HasRoom : {V : Type 0} → Places V → Vertex → Type 0
HasRoom places v = IsSome (place_at places v)

abbrev pub KeepsRoom : {V : Type 0} → Places V → Places V → Type 0
KeepsRoom before after = (v : Vertex) → HasRoom before v → HasRoom after v

-- ---- sets

-- the vertices of a set
abbrev pub holds : Places Bool → Vertex → Bool
holds places v = is_some (value_at places v)

-- the set of the vertices of a list
abbrev pub listed_places : List Vertex → Places Bool
listed_places vs = map (λ v. (v, Some true)) vs
