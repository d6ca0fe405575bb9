-- Lists in a strict order: those that hold the same are one, one more is put at its place, and some are left out.
use Rattle.std.proofs.Common.{◌≡◌, Bool, true, false, cond, List, [], ◌∷◌, refl, sym, ap, subst, ◌∙◌}
use Rattle.std.specs.Prelude.{◌||◌, ◌&&◌, filter}
use Rattle.std.specs.Cmp.{IsTotalOrder}
use Rattle.std.specs.List.{AllByRecursion}
use Rattle.std.specs.declared.cmp.Ordering.{Ordering}
use Rattle.std.specs.declared.cmp.Ordering.TheVariants.{Less, Equal, Greater}
use Rattle.std.specs.Ordering.{is_eq, ordering_reverse}
use Rattle.std.proofs.lemmas.Cmp.{tied_itself}
use Rattle.grove_sorts.proofs.Orders.{equal_from_test}
use Rattle.grove_sorts.proofs.Truths.{or_left, or_right, or_swap, or_again}

-- an order in which things that compare equal are one
pub record IsExactOrder {K : Type 0} (R : K → K → Ordering) : Type 0 where
  pub total : IsTotalOrder R
  pub exact : (x y : K) → R x y ≡ Equal → x ≡ y

abbrev pub IsInOrder : {K : Type 0} → (K → K → Ordering) → List K → Type 0
IsInOrder R [] = Unit {0}
IsInOrder R (x ∷ xs) = AllByRecursion (λ later. R x later ≡ Less) xs × IsInOrder R xs

abbrev pub holds : {K : Type 0} → (K → K → Ordering) → K → List K → Bool
holds R k [] = false
holds R k (x ∷ xs) = is_eq (R x k) || holds R k xs

one_from_test : {K : Type 0} (R : K → K → Ordering) → IsExactOrder R → (x y : K) → is_eq (R x y) ≡ true → x ≡ y
one_from_test R o x y h = o.exact x y (equal_from_test (R x y) h)

-- the test finds each thing the same as itself
pub test_itself : {K : Type 0} (R : K → K → Ordering) → IsExactOrder R → (x : K) → is_eq (R x x) ≡ true
test_itself R o x = ap is_eq (tied_itself o.total x)

or_other : (a b : Bool) → a ≡ false → (a || b) ≡ true → b ≡ true
or_other true b e h = absurd cc
or_other false b e h = h

-- ---- lists that hold the same

-- what comes before all of a list is not in it
not_held : {K : Type 0} (R : K → K → Ordering) → IsExactOrder R → (x : K) (ys : List K) → AllByRecursion (λ later. R x later ≡ Less) ys → holds R x ys ≡ false
not_held R o x [] all = refl
not_held R o x (y ∷ ys) all = by_test (is_eq (R y x)) refl (not_held R o x ys all.1) where
  by_test : (b : Bool) → is_eq (R y x) ≡ b → holds R x ys ≡ false → (b || holds R x ys) ≡ false
  by_test true same _ =
      let one = one_from_test R o y x same in
      let itself : R x x ≡ Less = ap (R x) (sym one) ∙ all.0 in
      let tie = tied_itself o.total x in
      absurd cc
  by_test false _ behind = behind

least_held : {K : Type 0} (R : K → K → Ordering) → IsExactOrder R → (x y : K) (ys : List K) → AllByRecursion (λ later. R y later ≡ Less) ys → holds R x ys ≡ true → R y x ≡ Less
least_held R o x y [] all h = absurd cc
least_held R o x y (z ∷ zs) all h = by_test (is_eq (R z x)) refl (λ rest. least_held R o x y zs all.1 rest) where
  by_test : (b : Bool) → is_eq (R z x) ≡ b → (holds R x zs ≡ true → R y x ≡ Less) → R y x ≡ Less
  by_test true same later = ap (R y) (sym (one_from_test R o z x same)) ∙ all.0
  by_test false other later = later (or_other (is_eq (R z x)) (holds R x zs) other h)

less_not_greater : {K : Type 0} (R : K → K → Ordering) → IsExactOrder R → (x y : K) → R x y ≡ Less → R y x ≡ Less → ⊥
less_not_greater R o x y a b = let turned : R x y ≡ ordering_reverse (R y x) = o.total.antisymm x y in let turned_less = ap ordering_reverse b in cc

same_first : {K : Type 0} (R : K → K → Ordering) → IsExactOrder R → (x y : K) (xs ys : List K) → AllByRecursion (λ later. R x later ≡ Less) xs → AllByRecursion (λ later. R y later ≡ Less) ys
    → holds R x (y ∷ ys) ≡ true → holds R y (x ∷ xs) ≡ true → x ≡ y
same_first R o x y xs ys after_x after_y in_ys in_xs = by_tests (is_eq (R y x)) (is_eq (R x y)) refl refl where
  by_tests : (a b : Bool) → is_eq (R y x) ≡ a → is_eq (R x y) ≡ b → x ≡ y
  by_tests true b same _ = sym (one_from_test R o y x same)
  by_tests false true _ same = one_from_test R o x y same
  by_tests false false other apart =
      let before = least_held R o x y ys after_y (or_other (is_eq (R y x)) (holds R x ys) other in_ys) in
      let behind = least_held R o y x xs after_x (or_other (is_eq (R x y)) (holds R y xs) apart in_xs) in
      absurd (less_not_greater R o x y behind before)

-- what the tail of one list holds the tail of the other holds too
tail_held : {K : Type 0} (R : K → K → Ordering) → IsExactOrder R → (x : K) (xs ys : List K) → AllByRecursion (λ later. R x later ≡ Less) xs
    → ((k : K) → holds R k (x ∷ xs) ≡ true → holds R k (x ∷ ys) ≡ true) → (k : K) → holds R k xs ≡ true → holds R k ys ≡ true
tail_held R o x xs ys after within k h = by_test (is_eq (R x k)) refl where
  whole : holds R k (x ∷ ys) ≡ true
  whole = within k (or_right (is_eq (R x k)) (holds R k xs) h)

  by_test : (b : Bool) → is_eq (R x k) ≡ b → holds R k ys ≡ true
  by_test true same =
      let none = not_held R o x xs after in
      let moved : holds R x xs ≡ true = ap (λ z. holds R z xs) (one_from_test R o x k same) ∙ h in
      absurd cc
  by_test false other = or_other (is_eq (R x k)) (holds R k ys) other whole

-- lists in order that hold the same are one
pub one_in_order : {K : Type 0} (R : K → K → Ordering) → IsExactOrder R → (xs ys : List K) → IsInOrder R xs → IsInOrder R ys → ((k : K) → holds R k xs ≡ true → holds R k ys ≡ true)
    → ((k : K) → holds R k ys ≡ true → holds R k xs ≡ true) → xs ≡ ys
one_in_order R o [] [] a b f g = refl
one_in_order R o [] (y ∷ ys) a b f g = let itself = g y (or_left (is_eq (R y y)) (holds R y ys) (test_itself R o y)) in absurd cc
one_in_order R o (x ∷ xs) [] a b f g = let itself = f x (or_left (is_eq (R x x)) (holds R x xs) (test_itself R o x)) in absurd cc
one_in_order {K} R o (x ∷ xs) (y ∷ ys) a b f g =
    let first : x ≡ y = same_first R o x y xs ys a.0 b.0 (f x (or_left (is_eq (R x x)) (holds R x xs) (test_itself R o x))) (g y (or_left (is_eq (R y y)) (holds R y ys) (test_itself R o y))) in
    let after : AllByRecursion (λ later. R x later ≡ Less) ys = subst (λ (z : K). AllByRecursion (λ later. R z later ≡ Less) ys) (sym first) b.0 in
    let to : (k : K) → holds R k (x ∷ xs) ≡ true → holds R k (x ∷ ys) ≡ true = λ k h. ap (λ (z : K). holds R k (z ∷ ys)) first ∙ f k h in
    let from : (k : K) → holds R k (x ∷ ys) ≡ true → holds R k (x ∷ xs) ≡ true = λ k h. g k (ap (λ (z : K). holds R k (z ∷ ys)) (sym first) ∙ h) in
    ap (λ z. z ∷ xs) first ∙ ap (λ zs. y ∷ zs) (one_in_order R o xs ys a.1 b.1 (tail_held R o x xs ys a.0 to) (tail_held R o x ys xs after from))

-- ---- one more

abbrev pub put_by : {K : Type 0} → Ordering → K → K → List K → List K → List K
put_by Less k x xs later = k ∷ x ∷ xs
put_by Equal k x xs later = x ∷ xs
put_by Greater k x xs later = x ∷ later

-- the list with one more at its place
abbrev pub put : {K : Type 0} → (K → K → Ordering) → K → List K → List K
put R k [] = k ∷ []
put R k (x ∷ xs) = put_by (R k x) k x xs (put R k xs)

pub holds-put : {K : Type 0} (R : K → K → Ordering) → IsExactOrder R → (q k : K) (xs : List K) → holds R q (put R k xs) ≡ (is_eq (R k q) || holds R q xs)
holds-put R o q k [] = refl
holds-put {K} R o q k (x ∷ xs) = by_order (R k x) refl (holds-put R o q k xs) where
  by_order : (c : Ordering) → R k x ≡ c → holds R q (put R k xs) ≡ (is_eq (R k q) || holds R q xs) → holds R q (put_by c k x xs (put R k xs)) ≡ (is_eq (R k q) || (is_eq (R x q) || holds R q xs))
  by_order Less _ rest = refl
  by_order Equal tie rest = let one = o.exact k x tie in subst (λ (z : K). (is_eq (R x q) || holds R q xs) ≡ (is_eq (R z q) || (is_eq (R x q) || holds R q xs))) (sym one) (or_again (is_eq (R x q)) (holds R q xs))
  by_order Greater _ rest = ap (λ b. is_eq (R x q) || b) rest ∙ or_swap (is_eq (R x q)) (is_eq (R k q)) (holds R q xs)

all_after : {K : Type 0} (R : K → K → Ordering) → IsExactOrder R → (x y : K) (ys : List K) → R x y ≡ Less → AllByRecursion (λ later. R y later ≡ Less) ys → AllByRecursion (λ later. R x later ≡ Less) ys
all_after R o x y [] lt all = tt
all_after R o x y (z ∷ zs) lt all = (o.total.trans x y z lt all.0, all_after R o x y zs lt all.1)

all_put : {K : Type 0} (R : K → K → Ordering) (x k : K) (ys : List K) → R x k ≡ Less → AllByRecursion (λ later. R x later ≡ Less) ys → AllByRecursion (λ later. R x later ≡ Less) (put R k ys)
all_put R x k [] lt all = (lt, tt)
all_put R x k (y ∷ ys) lt all = by_order (R k y) (all_put R x k ys lt all.1) where
  by_order : (c : Ordering) → AllByRecursion (λ later. R x later ≡ Less) (put R k ys) → AllByRecursion (λ later. R x later ≡ Less) (put_by c k y ys (put R k ys))
  by_order Less rest = (lt, all)
  by_order Equal rest = all
  by_order Greater rest = (all.0, rest)

pub in_order_put : {K : Type 0} (R : K → K → Ordering) → IsExactOrder R → (k : K) (xs : List K) → IsInOrder R xs → IsInOrder R (put R k xs)
in_order_put R o k [] a = (tt, tt)
in_order_put R o k (x ∷ xs) a = by_order (R k x) refl (in_order_put R o k xs a.1) where
  by_order : (c : Ordering) → R k x ≡ c → IsInOrder R (put R k xs) → IsInOrder R (put_by c k x xs (put R k xs))
  by_order Less lt rest = ((lt, all_after R o k x xs lt a.0), a)
  by_order Equal _ rest = a
  by_order Greater gt rest = (all_put R x k xs (o.total.antisymm x k ∙ ap ordering_reverse gt) a.0, rest)

-- ---- some left out

all_filter : {K : Type 0} (P : K → Type 0) (p : K → Bool) (xs : List K) → AllByRecursion P xs → AllByRecursion P (filter p xs)
all_filter P p [] all = tt
all_filter P p (x ∷ xs) all = by_test (p x) (all_filter P p xs all.1) where
  by_test : (b : Bool) → AllByRecursion P (filter p xs) → AllByRecursion P (cond b (x ∷ filter p xs) (filter p xs))
  by_test true rest = (all.0, rest)
  by_test false rest = rest

pub in_order_filter : {K : Type 0} (R : K → K → Ordering) (p : K → Bool) (xs : List K) → IsInOrder R xs → IsInOrder R (filter p xs)
in_order_filter R p [] a = tt
in_order_filter R p (x ∷ xs) a = by_test (p x) (in_order_filter R p xs a.1) where
  by_test : (b : Bool) → IsInOrder R (filter p xs) → IsInOrder R (cond b (x ∷ filter p xs) (filter p xs))
  by_test true rest = (all_filter (λ later. R x later ≡ Less) p xs a.0, rest)
  by_test false rest = rest

pub holds-filter : {K : Type 0} (R : K → K → Ordering) → IsExactOrder R → (p : K → Bool) (q : K) (xs : List K) → holds R q (filter p xs) ≡ (p q && holds R q xs)
holds-filter R o p q [] = none (p q) where
  none : (b : Bool) → false ≡ (b && false)
  none true = refl
  none false = refl
holds-filter {K} R o p q (x ∷ xs) = by_tests (is_eq (R x q)) refl (p x) refl (holds-filter R o p q xs) where
  by_tests : (s : Bool) → is_eq (R x q) ≡ s → (b : Bool) → p x ≡ b → holds R q (filter p xs) ≡ (p q && holds R q xs) → holds R q (cond b (x ∷ filter p xs) (filter p xs)) ≡ (p q && (s || holds R q xs))
  by_tests true same true passes rest =
      let q_passes : p q ≡ true = ap p (sym (one_from_test R o x q same)) ∙ passes in
      ap (λ s. s || holds R q (filter p xs)) same ∙ sym (ap (λ b. b && true) q_passes)
  by_tests true same false fails rest =
      let q_fails : p q ≡ false = ap p (sym (one_from_test R o x q same)) ∙ fails in
      rest ∙ ap (λ b. b && holds R q xs) q_fails ∙ sym (ap (λ b. b && true) q_fails)
  by_tests false other true passes rest = ap (λ s. s || holds R q (filter p xs)) other ∙ rest
  by_tests false other false fails rest = rest
