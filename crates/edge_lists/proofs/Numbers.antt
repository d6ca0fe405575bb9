-- Lists of numbers: what they hold, with one more at its place and with one fewer.
use Rattle.std.proofs.Common.{◌≡◌, ℕ, zero, suc, ◌+◌, ◌<◌, Bool, true, false, cond, List, [], ◌∷◌, length, get_or, refl, sym, ap, subst, ◌∙◌, arith}
use Rattle.std.specs.Prelude.{◌&&◌, ◌||◌, ◌==◌, not, insert}
use Rattle.std.specs.List.{prefix_len}
use Rattle.std.specs.declared.cmp.Ordering.{Ordering}
use Rattle.std.specs.Ordering.{is_lt}
use Rattle.std.proofs.lemmas.Bool.{eqb-true, eq-eqb}
use Rattle.grove_sorts.proofs.Truths.{or_swap, or_right}
use Rattle.edge_numbers.specs.Numbered.{Numbered, IsEdgeNumber}
use Rattle.edge_lists.specs.Lists.{holds_number, AreEdgeNumbers, without_number}
use Rattle.edge_lists.specs.Order.{with_number}

-- a list holds what stands at each of its indices
pub holds-at : (xs : List ℕ) (i d : ℕ) → i < length xs → holds_number (get_or xs i d) xs ≡ true
holds-at [] i d lt = absurd (omega arith)
holds-at (x ∷ xs) zero d lt = ap (λ b. b || holds_number x xs) (eq-eqb x x refl)
holds-at (x ∷ xs) (suc i) d lt = or_right (x == get_or xs i d) (holds_number (get_or xs i d) xs) (holds-at xs i d (omega arith))

pub known_at : (edges : Numbered) (xs : List ℕ) (i d : ℕ) → AreEdgeNumbers edges xs → i < length xs → IsEdgeNumber edges (get_or xs i d)
known_at edges xs i d known lt = known (get_or xs i d) (holds-at xs i d lt)

pub holds-with_number : (order : ℕ → ℕ → Ordering) (n m : ℕ) (xs : List ℕ) → holds_number m (with_number order n xs) ≡ ((n == m) || holds_number m xs)
holds-with_number order n m [] = refl
holds-with_number order n m (x ∷ xs) =
    elim (is_lt (order x n)) as (λ b. holds_number m (cond b (x ∷ with_number order n xs) (n ∷ x ∷ xs)) ≡ ((n == m) || ((x == m) || holds_number m xs))) [
      | true ↦ ap (λ b. (x == m) || b) (holds-with_number order n m xs) ∙ or_swap (x == m) (n == m) (holds_number m xs)
      | false ↦ refl
    ]

pub one_more : (k : ℕ) → 1 + k ≡ suc k
one_more k = omega arith

pub insert-prefix_len : (order : ℕ → ℕ → Ordering) (n : ℕ) (xs : List ℕ) → insert xs (prefix_len (λ m. is_lt (order m n)) xs) n ≡ with_number order n xs
insert-prefix_len order n [] = refl
insert-prefix_len order n (x ∷ xs) =
    elim (is_lt (order x n)) as (λ b. insert (x ∷ xs) (cond b (1 + prefix_len (λ m. is_lt (order m n)) xs) 0) n ≡ cond b (x ∷ with_number order n xs) (n ∷ x ∷ xs)) [
      | true ↦ ap (λ i. insert (x ∷ xs) i n) (one_more (prefix_len (λ m. is_lt (order m n)) xs)) ∙ ap (λ zs. x ∷ zs) (insert-prefix_len order n xs)
      | false ↦ refl
    ]

-- ---- one fewer

same_apart : (n m : ℕ) (held : Bool) → (not (n == m) && held) ≡ (not (n == m) && ((n == m) || held))
same_apart n m held = elim (n == m) as (λ b. (not b && held) ≡ (not b && (b || held))) [ true ↦ refl | false ↦ refl ]

turned : (n m : ℕ) → (n == m) ≡ false → (m == n) ≡ false
turned n m other = by_test (m == n) refl where
  by_test : (b : Bool) → (m == n) ≡ b → b ≡ false
  by_test true same =
      let again : (n == m) ≡ true = eq-eqb n m (sym (eqb-true m n same)) in
      absurd cc
  by_test false _ = refl

other_stays : (n x m : ℕ) (held : Bool) → (x == n) ≡ false → ((x == m) || (not (n == m) && held)) ≡ (not (n == m) && ((x == m) || held))
other_stays n x m held other =
    elim (x == m) as (λ b. (x == m) ≡ b → (b || (not (n == m) && held)) ≡ (not (n == m) && (b || held))) [
      | true ↦ λ same.
          let apart : (n == m) ≡ false = turned m n (subst (λ z. (z == n) ≡ false) (eqb-true x m same) other) in
          sym (ap (λ b. not b && true) apart)
      | false ↦ λ _. refl
    ] refl

pub holds-without_number : (n m : ℕ) (xs : List ℕ) → holds_number m (without_number n xs) ≡ (not (n == m) && holds_number m xs)
holds-without_number n m [] = elim (not (n == m)) as (λ b. false ≡ (b && false)) [ true ↦ refl | false ↦ refl ]
holds-without_number n m (x ∷ xs) =
    elim (x == n) as (λ b. (x == n) ≡ b → holds_number m (cond (not b) (x ∷ without_number n xs) (without_number n xs)) ≡ (not (n == m) && ((x == m) || holds_number m xs))) [
      | true ↦ λ same.
          holds-without_number n m xs ∙ same_apart n m (holds_number m xs) ∙ ap (λ z. not (n == m) && ((z == m) || holds_number m xs)) (sym (eqb-true x n same))
      | false ↦ λ other. ap (λ b. (x == m) || b) (holds-without_number n m xs) ∙ other_stays n x m (holds_number m xs) other
    ] refl
