-- Sums over lists.
use Rattle.std.proofs.Common.{◌≡◌, ℕ, ◌+◌, ◌*◌, Bool, true, false, cond, List, [], ◌∷◌, ◌++◌, filter, count_by, refl, sym, ap, ◌∙◌, arith}
use Rattle.std.specs.List.{AllByRecursion}
use Rattle.std.proofs.lemmas.List.Sums.{sum_by-cons}
use Rattle.grove_sorts.specs.declared.position.Position.{Position}
use Rattle.grove_sorts.specs.declared.sort.Sort.{Sort}
use Rattle.grove_sorts.specs.Position.{is_same_position}
use Rattle.grove_terms.proofs.Table.{occurs}

abbrev pub once : Bool → ℕ
once b = cond b 1 0

abbrev pub total : {X : Type 0} → (X → ℕ) → List X → ℕ
total f [] = 0
total f (x ∷ xs) = f x + total f xs

pub count_is_total : {X : Type 0} (p : X → Bool) (xs : List X) → count_by p xs ≡ total (λ x. once (p x)) xs
count_is_total p [] = refl
count_is_total p (x ∷ xs) = sum_by-cons (λ y. once (p y)) x xs ∙ ap (λ n. once (p x) + n) (count_is_total p xs)

pub total-append : {X : Type 0} (f : X → ℕ) (xs ys : List X) → total f (xs ++ ys) ≡ total f xs + total f ys
total-append f [] ys = omega arith
total-append f (x ∷ xs) ys = let rest = total-append f xs ys in omega arith

pub total_alike : {X : Type 0} (f g : X → ℕ) → ((x : X) → f x ≡ g x) → (xs : List X) → total f xs ≡ total g xs
total_alike f g alike [] = refl
total_alike f g alike (x ∷ xs) = let first = alike x in let rest = total_alike f g alike xs in omega arith

pub total_nothing : {X : Type 0} (f : X → ℕ) → ((x : X) → f x ≡ 0) → (xs : List X) → total f xs ≡ 0
total_nothing f each [] = refl
total_nothing f each (x ∷ xs) = let first = each x in let rest = total_nothing f each xs in omega arith

pub total_both : {X : Type 0} (f g : X → ℕ) (xs : List X) → total (λ x. f x + g x) xs ≡ total f xs + total g xs
total_both f g [] = omega arith
total_both f g (x ∷ xs) = let rest = total_both f g xs in omega arith

pub total-filter : {X : Type 0} (p : X → Bool) (f : X → ℕ) (xs : List X) → total f (filter p xs) ≡ total (λ x. cond (p x) (f x) 0) xs
total-filter p f [] = refl
total-filter p f (x ∷ xs) = by_test (p x) (total-filter p f xs) where
  by_test : (b : Bool) → total f (filter p xs) ≡ total (λ y. cond (p y) (f y) 0) xs → total f (cond b (x ∷ filter p xs) (filter p xs)) ≡ cond b (f x) 0 + total (λ y. cond (p y) (f y) 0) xs
  by_test true rest = omega arith
  by_test false rest = omega arith

-- those that pass two tests, by the one test or by the other first
pub total_swapped : {X : Type 0} (p q : X → Bool) (xs : List X) → total (λ x. once (q x)) (filter p xs) ≡ total (λ x. once (p x)) (filter q xs)
total_swapped p q xs =
    total-filter p (λ x. once (q x)) xs ∙ total_alike (λ x. cond (p x) (once (q x)) 0) (λ x. cond (q x) (once (p x)) 0) (λ x. by_tests (p x) (q x)) xs
    ∙ sym (total-filter q (λ x. once (p x)) xs)
  where
    by_tests : (a b : Bool) → cond a (once b) 0 ≡ cond b (once a) 0
    by_tests true true = refl
    by_tests true false = refl
    by_tests false true = refl
    by_tests false false = refl

-- ---- what stands at positions

-- what weighs so much and stands at one of some positions, position by position
abbrev pub spread : {X : Type 0} → (X → Position) → (X → ℕ) → List (Position × Sort) → List X → ℕ
spread place weight [] xs = 0
spread place weight (p ∷ ps) xs = total (λ x. cond (is_same_position (place x) p.0) (weight x) 0) xs + spread place weight ps xs

spread-nil : {X : Type 0} (place : X → Position) (weight : X → ℕ) (ps : List (Position × Sort)) → spread place weight ps [] ≡ 0
spread-nil place weight [] = refl
spread-nil place weight (p ∷ ps) = let rest = spread-nil place weight ps in omega arith

spread-cons : {X : Type 0} (place : X → Position) (weight : X → ℕ) (ps : List (Position × Sort)) (x : X) (xs : List X)
    → spread place weight ps (x ∷ xs) ≡ occurs (place x) ps * weight x + spread place weight ps xs
spread-cons place weight [] x xs = omega arith
spread-cons {X} place weight (p ∷ ps) x xs = by_test (is_same_position (place x) p.0) (spread-cons place weight ps x xs) where
  by_test : (b : Bool) → spread place weight ps (x ∷ xs) ≡ occurs (place x) ps * weight x + spread place weight ps xs
      → (cond b (weight x) 0 + total (λ (y : X). cond (is_same_position (place y) p.0) (weight y) 0) xs) + spread place weight ps (x ∷ xs)
      ≡ (cond b 1 0 + occurs (place x) ps) * weight x + (total (λ (y : X). cond (is_same_position (place y) p.0) (weight y) 0) xs + spread place weight ps xs)
  by_test true rest = omega arith
  by_test false rest = omega arith

-- where each stands at one of the positions, nothing is left out
pub spread_all : {X : Type 0} (place : X → Position) (weight : X → ℕ) (ps : List (Position × Sort)) (xs : List X) → AllByRecursion (λ x. occurs (place x) ps ≡ 1) xs
    → spread place weight ps xs ≡ total weight xs
spread_all place weight ps [] all = spread-nil place weight ps
spread_all place weight ps (x ∷ xs) all =
    let rest = spread_all place weight ps xs all.1 in
    let one : occurs (place x) ps * weight x ≡ weight x = ap (λ n. n * weight x) all.0 ∙ once_over (weight x) in
    let first = spread-cons place weight ps x xs in
    omega arith
  where
    once_over : (n : ℕ) → 1 * n ≡ n
    once_over n = omega arith
