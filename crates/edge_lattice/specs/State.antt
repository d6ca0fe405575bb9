-- The states of an edge and their order: Absent, then Live, then Deleted.
-- The promise of the commands rests on these definitions.
use Rattle.std.specs.Prelude.{ℕ, ◌≤◌, nat_le, if◌then◌else◌}
use Rattle.edge_lattice.specs.declared.state.State.{State}
use Rattle.edge_lattice.specs.declared.state.State.TheVariants.{Absent, Live, Deleted}

abbrev pub rank : State → ℕ
rank Absent = 0
rank Live = 1
rank Deleted = 2

abbrev pub IsAtMost : State → State → Type 0
IsAtMost a b = rank a ≤ rank b

-- the greater of two states
abbrev pub state_join : State → State → State
state_join a b = if nat_le (rank a) (rank b) then b else a
