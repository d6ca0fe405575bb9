-- What tests of states say.
use Rattle.std.proofs.Common.{◌≡◌, ◌≢◌, true, refl}
use Rattle.edge_lattice.specs.declared.state.State.{State}
use Rattle.edge_lattice.specs.declared.state.State.TheVariants.{Absent, Live, Deleted}
use Rattle.graph_words.specs.States.{is_live, is_present}

pub live_from_test : (s : State) → is_live s ≡ true → s ≡ Live
live_from_test Absent h = absurd cc
live_from_test Live h = refl
live_from_test Deleted h = absurd cc

pub present_from_test : (s : State) → is_present s ≡ true → s ≢ Absent
present_from_test Absent h e = cc
present_from_test Live h e = cc
present_from_test Deleted h e = cc

pub test_from_present : (s : State) → s ≢ Absent → is_present s ≡ true
test_from_present Absent h = absurd (h refl)
test_from_present Live h = refl
test_from_present Deleted h = refl
