-- The edges that a block opened with, told by a flag for each number of an edge.
use Rattle.std.specs.Prelude.{◌≡◌, ℕ, Bool, true, List, [], ◌∷◌, map, take, if◌then◌else◌}
use Rattle.std.specs.List.{AllByRecursion}
use Rattle.grove_edits.specs.declared.edge.Edge.{Edge}
use Rattle.graph_words.specs.Ordered.{with_edge}
use Rattle.edge_numbers.specs.Numbered.{edges_of}
use Rattle.graph_words.specs.States.{Entries, state_in, is_present}

-- those of these edges whose flag is true, in edge order; an edge behind the last flag has none
abbrev pub flagged : List Edge → List Bool → List Edge
flagged [] flags = []
flagged (e ∷ es) [] = []
flagged (e ∷ es) (flag ∷ flags) = if flag then with_edge e (flagged es flags) else flagged es flags

-- the edges of the entries whose numbers have a flag that is true, whatever their states are by now
abbrev pub opening_edges : Entries → List Bool → List Edge
opening_edges entries flags = flagged (edges_of entries) flags

-- for each number, whether its edge is not Absent
abbrev pub present_flags : Entries → List Bool
present_flags entries = map (λ e. is_present (state_in entries e)) (edges_of entries)

-- the flags of the first numbers
abbrev pub first_flags : Entries → ℕ → List Bool
first_flags entries count = map (λ e. is_present (state_in entries e)) (take count (edges_of entries))

abbrev pub AreTrue : List Bool → Type 0
AreTrue flags = AllByRecursion (λ flag. flag ≡ true) flags
