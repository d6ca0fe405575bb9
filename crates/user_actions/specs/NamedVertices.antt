-- What a look-up of the one vertex with a name tells.
use Rattle.std.specs.Prelude.{◌≡◌, ◌⊎◌}
use Rattle.grove_names.specs.declared.name.Name.{Name}
use Rattle.grove_edits.specs.declared.vertex.Vertex.{Vertex}
use Rattle.graph_words.specs.declared.named.Named.TheVariants.{Zero, One, More}
use Rattle.graph_words.specs.Named.{AreLeastTwo}
use Rattle.grove_edits.specs.Graph.{Graph}
use Rattle.graph_words.specs.Whole.{IsVertexOf}
use Rattle.grove_edits.specs.declared.act_fault.ActFault.{ActFault}
use Rattle.grove_edits.specs.declared.act_fault.ActFault.TheVariants.{NoVertex, AmbiguousVertex}

-- a vertex of the graph with the name
abbrev pub IsVertexNamed : Graph → Name → Vertex → Type 0
IsVertexNamed g name v = (v.name ≡ name) × IsVertexOf g v

-- the vertex alone has the name
abbrev pub IsOneNamed : Graph → Name → Vertex → Type 0
IsOneNamed g name v = AreLeastTwo (IsVertexNamed g name) (One v)

abbrev pub IsNoneNamed : Graph → Name → Type 0
IsNoneNamed g name = AreLeastTwo (IsVertexNamed g name) Zero

-- the fault tells that no vertex has the name, or the least two that have it
abbrev pub IsVertexFault : Graph → Name → ActFault → Type 0
IsVertexFault g name (NoVertex missing) = (missing ≡ name) × IsNoneNamed g name
IsVertexFault g name (AmbiguousVertex first second) = AreLeastTwo (IsVertexNamed g name) (More first second)
IsVertexFault g name _ = ⊥

-- a vertex has the name
abbrev pub IsSomeNamed : Graph → Name → Type 0
IsSomeNamed g name = (v : Vertex) × IsVertexNamed g name v

-- two or more have the name, and these are the least two
abbrev pub AreTwoNamed : Graph → Name → Vertex → Vertex → Type 0
AreTwoNamed g name first second = AreLeastTwo (IsVertexNamed g name) (More first second)

-- the fault tells the first of two names that no vertex has, and else the least two vertices of the first name that several have
abbrev pub IsFirstVertexFault : Graph → Name → Name → ActFault → Type 0
IsFirstVertexFault g one two (NoVertex missing) =
    ((missing ≡ one) × IsNoneNamed g one) ⊎ ((missing ≡ two) × IsSomeNamed g one × IsNoneNamed g two)
IsFirstVertexFault g one two (AmbiguousVertex first second) =
    (AreTwoNamed g one first second × (IsNoneNamed g two → ⊥)) ⊎ ((v : Vertex) × IsOneNamed g one v × AreTwoNamed g two first second)
IsFirstVertexFault g one two _ = ⊥
