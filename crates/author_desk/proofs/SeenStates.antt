-- What seats have seen of slots: a raised slot stays raised, and a joined seat has seen what either had.
use Rattle.std.proofs.Common.{◌≡◌, ℕ, zero, suc, List, [], ◌∷◌, ◌++◌, refl, le_refl, arith}
use Rattle.edge_lattice.specs.declared.state.State.{State}
use Rattle.edge_lattice.specs.declared.state.State.TheVariants.{Absent, Live, Deleted}
use Rattle.edge_lattice.specs.State.{rank, IsAtMost, state_join}
use Rattle.edge_board.specs.States.{state_at, AreAtMost, joined_states}
use Rattle.author_desk.specs.Cuts.{AreSeenRaised}

pub most_itself : (xs : List State) → AreAtMost xs xs
most_itself xs slot = le_refl (rank (state_at xs slot))

deleted_stays : (a b : State) → IsAtMost a b → a ≡ Deleted → b ≡ Deleted
deleted_stays Absent b most is = cc
deleted_stays Live b most is = cc
deleted_stays Deleted Absent most is = absurd (omega arith)
deleted_stays Deleted Live most is = absurd (omega arith)
deleted_stays Deleted Deleted most is = refl

pub still_raised : (xs ys : List State) (slot : ℕ) → AreAtMost xs ys → state_at xs slot ≡ Deleted → state_at ys slot ≡ Deleted
still_raised xs ys slot most is = deleted_stays (state_at xs slot) (state_at ys slot) (most slot) is

pub raised_later : (xs ys : List State) (slots : List ℕ) → AreAtMost xs ys → AreSeenRaised xs slots → AreSeenRaised ys slots
raised_later xs ys [] most are = tt
raised_later xs ys (slot ∷ slots) most are = (still_raised xs ys slot most are.0, raised_later xs ys slots most are.1)

pub raised_all : (xs : List State) (slots more : List ℕ) → AreSeenRaised xs slots → AreSeenRaised xs more → AreSeenRaised xs (slots ++ more)
raised_all xs [] more are are' = are'
raised_all xs (slot ∷ slots) more are are' = (are.0, raised_all xs slots more are.1 are')

join_left : (a b : State) → IsAtMost a (state_join a b)
join_left Absent b = omega arith
join_left Live Absent = omega arith
join_left Live Live = omega arith
join_left Live Deleted = omega arith
join_left Deleted Absent = omega arith
join_left Deleted Live = omega arith
join_left Deleted Deleted = omega arith

join_right : (a b : State) → IsAtMost b (state_join a b)
join_right a Absent = omega arith
join_right Absent Live = omega arith
join_right Live Live = omega arith
join_right Deleted Live = omega arith
join_right Absent Deleted = omega arith
join_right Live Deleted = omega arith
join_right Deleted Deleted = omega arith

pub joined_left : (xs ys : List State) → AreAtMost xs (joined_states xs ys)
joined_left [] ys slot = omega arith
joined_left (x ∷ xs) [] slot = most_itself (x ∷ xs) slot
joined_left (x ∷ xs) (y ∷ ys) zero = join_left x y
joined_left (x ∷ xs) (y ∷ ys) (suc slot) = joined_left xs ys slot

pub joined_right : (xs ys : List State) → AreAtMost ys (joined_states xs ys)
joined_right [] ys slot = most_itself ys slot
joined_right (x ∷ xs) [] slot = omega arith
joined_right (x ∷ xs) (y ∷ ys) zero = join_right x y
joined_right (x ∷ xs) (y ∷ ys) (suc slot) = joined_right xs ys slot
