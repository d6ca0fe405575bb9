-- Constructors that were sorted beside their numbers, and their ranks.
use Rattle.std.proofs.Common.{◌≡◌, ℕ, zero, suc, ◌+◌, ◌<◌, Ordering, Less, Equal, Greater, is_lt, List, [], ◌∷◌, length, slice_get, Some, false, add-zero, true≢false, refl, sym, ap, subst, ◌∙◌, arith}
use Rattle.std.specs.Prelude.{slice_index_or}
use Rattle.std.specs.List.{All, Contains}
use Rattle.std.specs.List.Sorted.{IsPermutation, IsSorted}
use Rattle.std.specs.Ordering.{MatchOrdering, ordering_reverse}
use Rattle.std.specs.Cmp.{IsStrictWeakOrder, nat_cmp_is}
use Rattle.std.proofs.Math.Nat.{lt_of_not-le}
use Rattle.std.proofs.lemmas.Option.{same_Some}
use Rattle.std.proofs.lemmas.List.Sorted.{All-permutation, Contains-permutation, length_permutation, ranks_by, sorted_far}
use Rattle.grove_sorts.specs.declared.ctor.Ctor.{Ctor}
use Rattle.grove_sorts.specs.declared.ctor.Ctor.TheVariants.{Root}
use Rattle.grove_sorts.specs.Ctor.{ctor_cmp}
use Rattle.grove_sorts.proofs.Orders.{ctor_cmp_exact, ctor_cmp_total}
use Rattle.edit_table.specs.declared.ranking.NumberedCtor.{NumberedCtor}
use Rattle.edit_table.specs.Keys.{ctor_at, StandOnce}
use Rattle.edit_table.specs.Ranks.{numbered_from, AreIndices, AreRanks, HasIndex}
use Rattle.edit_table.proofs.Lists.{read_at, stands_within, within_from}

-- ---- constructors beside their numbers

pub length-numbered : (n : ℕ) (ctors : List Ctor) → length (numbered_from n ctors) ≡ length ctors
length-numbered n [] = refl
length-numbered n (c ∷ ctors) = ap suc (length-numbered (suc n) ctors)

numbered_at : (n k : ℕ) (ctors : List Ctor) (x : NumberedCtor) → slice_get (numbered_from n ctors) k ≡ Some x → (x.number ≡ n + k) × (slice_get ctors k ≡ Some x.ctor)
numbered_at n k [] x at = absurd cc
numbered_at n zero (c ∷ ctors) x at =
    let is = same_Some (record { ctor = c; number = n }) x at in
    (sym (ap (λ (y : NumberedCtor). y.number) is) ∙ sym (add-zero n), ap (λ (y : NumberedCtor). Some y.ctor) is)
numbered_at n (suc k) (c ∷ ctors) x at =
    let rest = numbered_at (suc n) k ctors x at in
    (omega (arith, rest.0), rest.1)

-- ---- the ranks

abbrev IsOf : List Ctor → NumberedCtor → Type 0
IsOf ctors x = slice_get ctors x.number ≡ Some x.ctor

abbrev pub numbered_cmp : NumberedCtor → NumberedCtor → Ordering
numbered_cmp x y = ctor_cmp x.ctor y.ctor

pub numbered_rank : IsStrictWeakOrder (λ x y. is_lt (numbered_cmp x y))
numbered_rank = ranks_by ctor_cmp_total (λ (x : NumberedCtor). x.ctor)

all_of : (ctors : List Ctor) → All (IsOf ctors) (numbered_from 0 ctors)
all_of ctors k d within =
    let is = numbered_at 0 k ctors (slice_index_or (numbered_from 0 ctors) k d) (stands_within (numbered_from 0 ctors) k d within) in
    ap (slice_get ctors) (omega (arith, is.0)) ∙ is.1

module _ (ctors : List Ctor) (numbered sorted : List NumberedCtor) (is : numbered ≡ numbered_from 0 ctors) (moved : IsPermutation numbered sorted) where
  from_numbered : IsPermutation (numbered_from 0 ctors) sorted
  from_numbered = subst (λ xs. IsPermutation xs sorted) is moved

  pub as_long_sorted : length sorted ≡ length ctors
  as_long_sorted = length_permutation (numbered_from 0 ctors) sorted from_numbered ∙ length-numbered 0 ctors

  each_is : All (IsOf ctors) sorted
  each_is = All-permutation (IsOf ctors) (numbered_from 0 ctors) sorted from_numbered (all_of ctors)

  pub numbers_within : All (λ (x : NumberedCtor). x.number < length sorted) sorted
  numbers_within k d within =
      let fits = within_from ctors (slice_index_or sorted k d).number (slice_index_or sorted k d).ctor (each_is k d within) in
      omega (arith, fits, as_long_sorted)

  module _ (once : StandOnce ctors) (ascends : IsSorted numbered_cmp sorted) (ranks : List ℕ) (are : AreIndices sorted ranks) where
    -- what stands at the rank of a number
    record Stands (n p : ℕ) : Type 0 where
      x : NumberedCtor
      at : slice_get sorted p ≡ Some x
      number : x.number ≡ n
      ctor : slice_get ctors n ≡ Some x.ctor

    module _ (n p : ℕ) (ranked : slice_get ranks n ≡ Some p) where
      within : n < length (numbered_from 0 ctors)
      within = omega (arith, within_from ranks n p ranked, are.long, as_long_sorted, length-numbered 0 ctors)

      y : NumberedCtor
      y = slice_index_or (numbered_from 0 ctors) n (record { ctor = Root; number = 0 })

      y_at : slice_get (numbered_from 0 ctors) n ≡ Some y
      unfolding y
      y_at = stands_within (numbered_from 0 ctors) n (record { ctor = Root; number = 0 }) within

      y_number : y.number ≡ n
      y_number = omega (arith, (numbered_at 0 n ctors y y_at).0)

      sorted_has : Contains sorted y
      sorted_has = Contains-permutation (numbered_from 0 ctors) sorted y from_numbered (n, within, read_at (numbered_from 0 ctors) n y y y_at)

      has_index : HasIndex sorted ranks y.number
      has_index = are.there sorted_has.0 y sorted_has.1 (stands_within sorted sorted_has.0 y sorted_has.1 ∙ ap (λ (z : NumberedCtor). Some z) sorted_has.2)

      stands_at : Stands n p
      stands_at = by_index has_index where
        by_index : HasIndex sorted ranks y.number → Stands n p
        by_index (rank, x, at_number, at_rank, number) =
            let same : rank ≡ p = same_Some rank p (sym at_number ∙ ap (slice_get ranks) y_number ∙ ranked) in
            let at : slice_get sorted p ≡ Some x = ap (slice_get sorted) (sym same) ∙ at_rank in
            let of : IsOf ctors x = subst (IsOf ctors) (read_at sorted p x x at) (each_is p x (within_from sorted p x at)) in
            record { x = x; at = at; number = number ∙ y_number; ctor = ap (slice_get ctors) (sym (number ∙ y_number)) ∙ of }

    -- a lower constructor stands before
    before : (p q : ℕ) (x y : NumberedCtor) → slice_get sorted p ≡ Some x → slice_get sorted q ≡ Some y → numbered_cmp x y ≡ Less → p < q
    before p q x y x_at y_at less = lt_of_not-le (λ behind.
        let far = sorted_far (λ a b. is_lt (numbered_cmp a b)) numbered_rank sorted ascends q p x behind (within_from sorted p x x_at) in
        let tested : is_lt (numbered_cmp x y) ≡ false =
        sym (ap (λ a. is_lt (numbered_cmp a y)) (read_at sorted p x x x_at)) ∙ sym (ap (λ a. is_lt (numbered_cmp (slice_index_or sorted p x) a)) (read_at sorted q x y y_at)) ∙ far in
        true≢false (sym (ap is_lt less) ∙ tested))

    pub are_ranks : AreRanks ctors ranks
    are_ranks m n p q m_at n_at = sym (nat_cmp_is p q (ctor_cmp (ctor_at ctors m) (ctor_at ctors n)) (by_order (ctor_cmp (ctor_at ctors m) (ctor_at ctors n)) refl)) where
      a : Stands m p
      a = stands_at m p m_at

      b : Stands n q
      b = stands_at n q n_at

      ctors_are : ctor_cmp (ctor_at ctors m) (ctor_at ctors n) ≡ numbered_cmp a.x b.x
      ctors_are = ap (λ c. ctor_cmp c (ctor_at ctors n)) (read_at ctors m Root a.x.ctor a.ctor) ∙ ap (ctor_cmp a.x.ctor) (read_at ctors n Root b.x.ctor b.ctor)

      by_order : (r : Ordering) → ctor_cmp (ctor_at ctors m) (ctor_at ctors n) ≡ r → MatchOrdering r (p < q) (p ≡ q) (q < p)
      by_order Less e = before p q a.x b.x a.at b.at (sym ctors_are ∙ e)
      by_order Equal e =
          let one : a.x.ctor ≡ b.x.ctor = ctor_cmp_exact a.x.ctor b.x.ctor (sym ctors_are ∙ e) in
          let number : m ≡ n = once m n b.x.ctor (a.ctor ∙ ap (λ (c : Ctor). Some c) one) b.ctor in
          same_Some p q (sym m_at ∙ ap (slice_get ranks) number ∙ n_at)
      by_order Greater e = before q p b.x a.x b.at a.at (ctor_cmp_total.antisymm b.x.ctor a.x.ctor ∙ ap ordering_reverse (sym ctors_are ∙ e))
