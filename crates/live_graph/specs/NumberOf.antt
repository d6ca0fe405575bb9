-- The numbers of edges among entries: the number of an edge is the index of its entry.
use Rattle.std.specs.Prelude.{◌≡◌, ℕ, ◌<◌, length, slice_index_or}
use Rattle.grove_edits.specs.declared.edge.Edge.{Edge}
use Rattle.edge_numbers.specs.Numbered.{edges_of, no_edge}
use Rattle.graph_words.specs.States.{Entries}

-- the entry with the index n is that of the edge
abbrev pub IsNumberOf : Entries → Edge → ℕ → Type 0
IsNumberOf entries e n = (n < length entries) × (slice_index_or (edges_of entries) n no_edge ≡ e)

-- each number of an edge is that of the same edge still
abbrev pub KeepsNumbersOf : Entries → Entries → Type 0
KeepsNumbersOf before after = (e : Edge) (n : ℕ) → IsNumberOf before e n → IsNumberOf after e n
