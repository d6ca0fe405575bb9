-- Vertices noted by their numbers.
use Rattle.std.proofs.Common.{◌≡◌, ℕ, zero, suc, Bool, true, false, List, [], ◌∷◌}
use Rattle.std.specs.Prelude.{Some, slice_get, slice_set, replicate}

-- none is noted at first
pub none_noted : (n k : ℕ) → slice_get (replicate n false) k ≡ Some true → ⊥
none_noted zero k is = cc
none_noted (suc n) zero is = cc
none_noted (suc n) (suc k) is = none_noted n k is

-- what holds of each that is noted holds after one more is noted of which it holds
pub one_more_noted : (P : ℕ → Type 0) (noted : List Bool) (i : ℕ) → P i → ((n : ℕ) → slice_get noted n ≡ Some true → P n) → (n : ℕ) → slice_get (slice_set noted i true) n ≡ Some true → P n
one_more_noted P [] i here before n is = before n is
one_more_noted P (b ∷ bs) zero here before zero is = here
one_more_noted P (b ∷ bs) zero here before (suc n) is = before (suc n) is
one_more_noted P (b ∷ bs) (suc i) here before zero is = before zero is
one_more_noted P (b ∷ bs) (suc i) here before (suc n) is = one_more_noted (λ m. P (suc m)) bs i here (λ m. before (suc m)) n is
