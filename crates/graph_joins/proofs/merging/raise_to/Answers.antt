use Rattle.std.proofs.Common.{subst, sym}
use Rattle.edge_lattice.specs.declared.state.State.{State}
use Rattle.edge_lattice.specs.State.{state_join}
use Rattle.grove_edits.specs.Graph.{IsSame}
use Rattle.graph_words.specs.States.{state_in, with_state}
use Rattle.graph_joins.proofs.Joined.{nothing_joined}
use Rattle.graph_joins.proofs.merging.raise_to.Goals as goal

pub returns-in-Absent-clause-state : goal.returns-in-Absent-clause-state
returns-in-Absent-clause-state c = λ e is.
    let g = state_in c.args.into.now in
    subst (λ (asked : State). IsSame g (with_state e (state_join (g e) asked) g)) (sym c.in-Absent.is) (nothing_joined g e)
