-- Inner model, which no public contract cites: the numbers of edges by the names of edges.
use Rattle.std.specs.Prelude.{◌≡◌, ℕ, Bool, true, ◌&&◌, nat_lt, length}
use Rattle.grove_names.specs.declared.name.Name.{Name}
use Rattle.grove_edits.specs.declared.edge.Edge.{Edge}
use Rattle.grove_edits.specs.Graph.{is_same_edge}
use Rattle.edge_numbers.specs.Numbered.{Numbered, edge_at, state_at, IsEdgeNumber}
use Rattle.edge_lists.specs.Lists.{holds_number}
use Rattle.numbers_by_name.specs.ByName.{Lists, numbers_of, is_same_name}
use Rattle.graph_words.specs.States.{is_present}

-- the number is that of an edge with the name that is not Absent
abbrev pub is_named : Numbered → Name → ℕ → Bool
is_named edges name n = nat_lt n (length edges.entries) && (is_same_name (edge_at edges n).name name && is_present (state_at edges n))

-- the number is that of this edge, which has the name and is not Absent
abbrev pub is_named_edge : Numbered → Name → Edge → ℕ → Bool
is_named_edge edges name e n = is_named edges name n && is_same_edge (edge_at edges n) e

-- what stands under a name stands there still
abbrev pub KeepsNames : Lists → Lists → Type 0
KeepsNames before after = (name : Name) (n : ℕ) → holds_number n (numbers_of before name) ≡ true → holds_number n (numbers_of after name) ≡ true

-- the number of each edge stands under its name; other numbers may stand there too
abbrev pub HasEdgeNames : Numbered → Lists → Type 0
HasEdgeNames edges names = (n : ℕ) → IsEdgeNumber edges n → holds_number n (numbers_of names (edge_at edges n).name) ≡ true
