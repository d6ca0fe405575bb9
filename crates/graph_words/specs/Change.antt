-- How a state changes where it is raised.
use Rattle.std.specs.Prelude.{◌≡◌, ◌<◌}
use Rattle.edge_lattice.specs.declared.state.State.{State}
use Rattle.edge_lattice.specs.State.{rank, IsAtMost}
use Rattle.graph_words.specs.declared.change.Change.{Change}
use Rattle.graph_words.specs.declared.change.Change.TheVariants.{Same, Raised}

-- what is answered where a state is to be at least another: that it already was, or from which lower one it rose
abbrev pub IsChange : State → State → Change → Type 0
IsChange old asked Same = IsAtMost asked old
IsChange old asked (Raised was) = (was ≡ old) × (rank old < rank asked)
