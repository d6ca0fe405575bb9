-- Inner model, which no public contract cites: what is kept of vertices by their numbers, while walks up look for the roots of cycles.
use Rattle.std.specs.Prelude.{ℕ, zero, suc, Bool, true, false, List, [], ◌∷◌, Option, None, Some}
use Rattle.std.specs.List.{slice_index_or}
use Rattle.grove_edits.specs.declared.vertex.Vertex.{Vertex}

-- the walk that a mark tells, which is one more than the walk's number
abbrev pub walk_of : ℕ → Option ℕ
walk_of zero = None
walk_of (suc walk) = Some walk

-- the walk that met the vertex with a number first
abbrev pub walk_at : List ℕ → ℕ → Option ℕ
walk_at marks number = walk_of (slice_index_or marks number 0)

-- the vertices that were met, each with the number of the walk that met it first
abbrev pub met_of : List Vertex → List ℕ → List (Vertex × ℕ)
met_of [] marks = []
met_of (v ∷ vs) [] = []
met_of (v ∷ vs) (zero ∷ marks) = met_of vs marks
met_of (v ∷ vs) (suc walk ∷ marks) = (v, walk) ∷ met_of vs marks

-- the vertices that are marked
abbrev pub marked : List Vertex → List Bool → List Vertex
marked [] marks = []
marked (v ∷ vs) [] = []
marked (v ∷ vs) (true ∷ marks) = v ∷ marked vs marks
marked (v ∷ vs) (false ∷ marks) = marked vs marks
