-- The rows of the lines, one more.
use Rattle.std.proofs.Common.{◌≡◌, ℕ, zero, suc, ◌+◌, ◌<◌, ◌≤◌, ◌⊎◌, inl, inr, List, length, set, refl, sym, ap, subst, ◌∙◌, arith}
use Rattle.std.proofs.lemmas.List.{get_or-set_same, get_or-set_other}
use Rattle.type_infer.specs.declared.rows.Places.{Places}
use Rattle.type_infer.specs.Positions.{row_at}

at_or_past : (i k : ℕ) → k ≤ i → (i ≡ k) ⊎ (k + 1 ≤ i)
at_or_past zero zero h = inl refl
at_or_past zero (suc k) h = absurd (omega (arith, h))
at_or_past (suc i) zero h = inr (omega arith)
at_or_past (suc i) (suc k) h = by (at_or_past i k (omega (arith, h)))
  where
    by : (i ≡ k) ⊎ (k + 1 ≤ i) → (suc i ≡ suc k) ⊎ (suc k + 1 ≤ suc i)
    by (inl e) = inl (ap (λ (n : ℕ). suc n) e)
    by (inr le) = inr (omega (arith, le))

pub row_set : (P : ℕ → Places → Type 0) (rows : List Places) (k n below : ℕ) (r : Places) → k < length rows → k + 1 ≡ below → P k r → ((i : ℕ) → below ≤ i → i < n → P i (row_at rows i))
    → (i : ℕ) → k ≤ i → i < n → P i (row_at (set rows k r) i)
row_set P rows k n below r within next here others i le lt = by (at_or_past i k le)
  where
    by : (i ≡ k) ⊎ (k + 1 ≤ i) → P i (row_at (set rows k r) i)
    by (inl e) = subst (λ j. P j (row_at (set rows k r) j)) (sym e) (subst (P k) (sym (get_or-set_same rows k r _ within)) here)
    by (inr past) = subst (P i) (sym (get_or-set_other rows k i r _ (λ e. omega (arith, past, e)))) (others i (omega (arith, past, next)) lt)
