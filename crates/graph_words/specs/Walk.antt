-- The walk up from a vertex.
-- The promise of the commands rests on these definitions.
use Rattle.std.specs.Prelude.{◌≡◌, ℕ, zero, suc, true, false, List, [], ◌∷◌, length, Option, None, Some, if◌then◌else◌}
use Rattle.grove_edits.specs.declared.vertex.Vertex.{Vertex}
use Rattle.grove_edits.specs.declared.edge.Edge.{Edge}
use Rattle.graph_words.specs.Live.{parents_of}
use Rattle.grove_edits.specs.Vertex.{stands_in}

-- the source of a list's one edge
abbrev pub only_source : List Edge → Option Vertex
only_source [] = None
only_source (e ∷ []) = Some e.source
only_source (e ∷ f ∷ _) = None

-- the vertex above: the source of the one live parent edge, where there is exactly one
abbrev pub above : List Edge → Vertex → Option Vertex
above edges v = only_source (parents_of v edges)

-- nothing is left to be added, since there is no next vertex or it was passed already
abbrev pub IsEnd : List Vertex → Option Vertex → Type 0
IsEnd passed None = Unit {0}
IsEnd passed (Some v) = stands_in v passed ≡ true

-- the vertices that a walk which has passed some adds from the next one on: each is above the one before, and the walk ends
-- where there is none or where it was passed
abbrev pub GoesOn : List Edge → List Vertex → Option Vertex → List Vertex → Type 0
GoesOn edges passed next [] = IsEnd passed next
GoesOn edges passed next (x ∷ xs) = (next ≡ Some x) × (stands_in x passed ≡ false) × GoesOn edges (x ∷ passed) (above edges x) xs

-- a list is the walk up from a vertex
abbrev pub IsWalk : List Edge → Vertex → List Vertex → Type 0
IsWalk edges v xs = GoesOn edges [] (Some v) xs

-- the first of the vertices that a walk adds, at most so many
abbrev pub walk_on : ℕ → List Edge → List Vertex → Option Vertex → List Vertex
walk_on zero edges passed next = []
walk_on (suc most) edges passed None = []
walk_on (suc most) edges passed (Some v) = if stands_in v passed then [] else (v ∷ walk_on most edges (v ∷ passed) (above edges v))

-- the walk up from a vertex, which has at most one vertex more than there are edges
abbrev pub walk : List Edge → Vertex → List Vertex
walk edges v = walk_on (suc (length edges)) edges [] (Some v)

-- the vertex above the last one
abbrev pub above_last : List Edge → List Vertex → Option Vertex
above_last edges [] = None
above_last edges (x ∷ []) = above edges x
above_last edges (x ∷ y ∷ xs) = above_last edges (y ∷ xs)
