-- Inner model, which no public contract cites: the vertices that walks up have met, each with the number of the walk that met it first.
use Rattle.std.specs.Prelude.{◌≡◌, ◌<◌, ◌⊎◌, ℕ, true, List, Option, None, Some, is_none, filter, length}
use Rattle.std.specs.Map.{lookup}
use Rattle.grove_edits.specs.declared.vertex.Vertex.{Vertex}
use Rattle.grove_edits.specs.declared.edge.Edge.{Edge}
use Rattle.grove_edits.specs.Vertex.{is_same_vertex}
use Rattle.graph_words.specs.Walk.{walk}
use Rattle.graph_words.specs.Class.{is_cycle_root}
use Rattle.graph_words.specs.Cycle.{leads_to, is_on_cycle}

-- the number of the walk that met the vertex first
abbrev pub met_by : List (Vertex × ℕ) → Vertex → Option ℕ
met_by met v = lookup (is_same_vertex v) met

-- how many of the edges lead to a vertex that was not met
abbrev pub unmet : List Edge → List (Vertex × ℕ) → ℕ
unmet edges met = length (filter (λ e. is_none (met_by met e.target)) edges)

-- how long the way round is from the vertex to which a walk came back, if it came back to one
abbrev pub round_len : List Edge → Option Vertex → ℕ
round_len edges None = 0
round_len edges (Some v) = length (walk edges v)

-- each vertex that was met keeps its number, and each other may have got this one
abbrev pub KeepsMet : ℕ → List (Vertex × ℕ) → List (Vertex × ℕ) → Type 0
KeepsMet number before after = (v : Vertex) → (met_by after v ≡ met_by before v) ⊎ ((met_by before v ≡ None) × (met_by after v ≡ Some number))

-- the numbers of the walks so far are less
abbrev pub AreNumbered : ℕ → List (Vertex × ℕ) → Type 0
AreNumbered number met = (v : Vertex) (k : ℕ) → met_by met v ≡ Some k → k < number

-- how a walk ended that gave what it met a number: it came back to a vertex, or each cycle's root above what it met
-- is above a vertex that an earlier walk met
abbrev pub HasEnded : List Edge → ℕ → List (Vertex × ℕ) → List (Vertex × ℕ) → Option Vertex → Type 0
HasEnded edges number before after None =
    (v r : Vertex) → met_by after v ≡ Some number → is_cycle_root edges r ≡ true → leads_to edges v r ≡ true
    → (x : Vertex) × (k : ℕ) × (met_by before x ≡ Some k) × (leads_to edges x r ≡ true)
HasEnded edges number before after (Some x) =
    (is_on_cycle edges x ≡ true)
    × ((v r : Vertex) → met_by after v ≡ Some number → is_cycle_root edges r ≡ true → leads_to edges v r ≡ true → leads_to edges x r ≡ true)
