-- The join of states is that of a semilattice.
use Rattle.std.proofs.Common.{◌≡◌, refl}
use Rattle.edge_lattice.specs.declared.state.State.{State}
use Rattle.edge_lattice.specs.declared.state.State.TheVariants.{Absent, Live, Deleted}
use Rattle.edge_lattice.specs.State.{state_join}

pub state_join_assoc : (a b c : State) → state_join (state_join a b) c ≡ state_join a (state_join b c)
state_join_assoc Absent Absent Absent = refl
state_join_assoc Absent Absent Live = refl
state_join_assoc Absent Absent Deleted = refl
state_join_assoc Absent Live Absent = refl
state_join_assoc Absent Live Live = refl
state_join_assoc Absent Live Deleted = refl
state_join_assoc Absent Deleted Absent = refl
state_join_assoc Absent Deleted Live = refl
state_join_assoc Absent Deleted Deleted = refl
state_join_assoc Live Absent Absent = refl
state_join_assoc Live Absent Live = refl
state_join_assoc Live Absent Deleted = refl
state_join_assoc Live Live Absent = refl
state_join_assoc Live Live Live = refl
state_join_assoc Live Live Deleted = refl
state_join_assoc Live Deleted Absent = refl
state_join_assoc Live Deleted Live = refl
state_join_assoc Live Deleted Deleted = refl
state_join_assoc Deleted Absent Absent = refl
state_join_assoc Deleted Absent Live = refl
state_join_assoc Deleted Absent Deleted = refl
state_join_assoc Deleted Live Absent = refl
state_join_assoc Deleted Live Live = refl
state_join_assoc Deleted Live Deleted = refl
state_join_assoc Deleted Deleted Absent = refl
state_join_assoc Deleted Deleted Live = refl
state_join_assoc Deleted Deleted Deleted = refl

pub state_join_comm : (a b : State) → state_join a b ≡ state_join b a
state_join_comm Absent Absent = refl
state_join_comm Absent Live = refl
state_join_comm Absent Deleted = refl
state_join_comm Live Absent = refl
state_join_comm Live Live = refl
state_join_comm Live Deleted = refl
state_join_comm Deleted Absent = refl
state_join_comm Deleted Live = refl
state_join_comm Deleted Deleted = refl

pub state_join_idem : (a : State) → state_join a a ≡ a
state_join_idem Absent = refl
state_join_idem Live = refl
state_join_idem Deleted = refl

pub Absent-state_join : (a : State) → state_join Absent a ≡ a
Absent-state_join Absent = refl
Absent-state_join Live = refl
Absent-state_join Deleted = refl
