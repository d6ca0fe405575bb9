-- The edit that an entry lists.
use Rattle.std.specs.Prelude.{ℕ, ◌&&◌, length, nat_lt, if◌then◌else◌}
use Rattle.edge_lattice.specs.declared.state.State.TheVariants.{Absent}
use Rattle.grove_edits.specs.Graph.{Graph, is_same_edge}
use Rattle.edge_numbers.specs.Numbered.{Numbered, edge_at, state_at}

-- what the entry with a number says of an edge: nothing where it is that of another, or where the number is that of none
abbrev pub told_at : Numbered → ℕ → Graph
told_at edges n e = if nat_lt n (length edges.entries) && is_same_edge (edge_at edges n) e then state_at edges n else Absent
