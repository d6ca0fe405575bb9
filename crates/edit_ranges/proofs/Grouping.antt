-- The ranges of facts in order tell these facts and no other.
use Rattle.std.proofs.Common.{◌≡◌, ℕ, zero, suc, ◌+◌, ◌-◌, ◌<◌, ◌≤◌, ◌^◌, Bool, true, false, cond, List, [], ◌∷◌, get_or, refl, sym, ap, subst, ◌∙◌, arith}
use Rattle.std.specs.Prelude.{◌&&◌, ◌||◌, ◌==◌, nat_le, nat_lt}
use Rattle.std.specs.List.{All, list_any}
use Rattle.std.specs.List.Sorted.{IsSorted, IsPermutation}
use Rattle.std.specs.declared.cmp.Ordering.{Ordering}
use Rattle.std.specs.declared.cmp.Ordering.TheVariants.{Less, Equal, Greater}
use Rattle.std.specs.Ordering.{is_lt, ordering_then, nat_cmp}
use Rattle.std.proofs.lemmas.Bool.Decides.{nat_tests}
use Rattle.std.proofs.lemmas.List.Elements.{All-tail}
use Rattle.std.proofs.lemmas.List.Sorted.{All-permutation, list_any-IsPermutation}
use Rattle.grove_names.specs.declared.name.Name.{Name}
use Rattle.grove_names.specs.Name.{name_cmp}
use Rattle.edit_ranges.specs.declared.told.Told.{Told}
use Rattle.edit_ranges.specs.declared.told.Told.TheVariants.{Named, Deleted}
use Rattle.edit_ranges.specs.declared.fact.Fact.{Fact}
use Rattle.edit_ranges.specs.declared.name_range.NameRange.{NameRange}
use Rattle.edit_ranges.specs.contracts.fact.FactOrd.TheImpl as fact_impl
use Rattle.edit_ranges.specs.contracts.told.ToldOrd.TheImpl as told_impl
use Rattle.edit_ranges.specs.Ranges.{told_number, tells, tell, comes_before, is_apart, is_range, begins_apart, are_ranges}
use Rattle.edit_ranges.specs.Facts.{FactInRange, is_fact, alone, meets, extended, ranges_from, ranges_of}
use Rattle.edit_ranges.proofs.InOrder.{both_hold}

-- ---- the order of facts

abbrev before : Fact → Fact → Bool
before f g = comes_before (told_number f.told) f.name.author f.name.counter (told_number g.told) g.name.author g.name.counter

told_cmp : (t u : Told) → told_impl.ghosts.cmp t u ≡ nat_cmp (told_number t) (told_number u)
told_cmp Named Named = refl
told_cmp Named Deleted = refl
told_cmp Deleted Named = refl
told_cmp Deleted Deleted = refl

less_then : (a b : ℕ) (o : Ordering) → is_lt (ordering_then (nat_cmp a b) o) ≡ (nat_lt a b || ((a == b) && is_lt o))
less_then a b o = by_tests (nat_lt a b) (a == b) where
  by_tests : (l e : Bool) → is_lt (ordering_then (cond l Less (cond e Equal Greater)) o) ≡ (l || (e && is_lt o))
  by_tests true e = refl
  by_tests false true = refl
  by_tests false false = refl

less_number : (a b : ℕ) → is_lt (nat_cmp a b) ≡ nat_lt a b
less_number a b = by_tests (nat_lt a b) (a == b) where
  by_tests : (l e : Bool) → is_lt (cond l Less (cond e Equal Greater)) ≡ l
  by_tests true e = refl
  by_tests false true = refl
  by_tests false false = refl

cmp_is_before : (f g : Fact) → is_lt (fact_impl.ghosts.cmp f g) ≡ before f g
cmp_is_before f g =
    ap (λ o. is_lt (ordering_then o (name_cmp f.name g.name))) (told_cmp f.told g.told)
    ∙ less_then (told_number f.told) (told_number g.told) (name_cmp f.name g.name)
    ∙ ap (λ b. nat_lt (told_number f.told) (told_number g.told) || ((told_number f.told == told_number g.told) && b))
    (less_then f.name.author g.name.author (nat_cmp f.name.counter g.name.counter)
    ∙ ap (λ b. nat_lt f.name.author g.name.author || ((f.name.author == g.name.author) && b)) (less_number f.name.counter g.name.counter))

-- neighbours are in order, the first after a fact
abbrev pub Rises : Fact → List Fact → Type 0
Rises f [] = Unit {0}
Rises f (g ∷ gs) = (before g f ≡ false) × Rises g gs

sorted_tail : (x : Fact) (xs : List Fact) → IsSorted fact_impl.ghosts.cmp (x ∷ xs) → IsSorted fact_impl.ghosts.cmp xs
sorted_tail x xs up k d low high =
    let next : suc k + 1 ≡ suc (k + 1) = omega arith in
    subst (λ (n : ℕ). is_lt (fact_impl.ghosts.cmp (get_or (x ∷ xs) n d) (get_or xs k d)) ≡ false) next (up (suc k) d (omega arith) (omega arith))

rises : (x : Fact) (xs : List Fact) → IsSorted fact_impl.ghosts.cmp (x ∷ xs) → Rises x xs
rises x [] up = tt
rises x (y ∷ ys) up = (sym (cmp_is_before y x) ∙ up zero x (omega arith) (omega arith), rises y ys (sorted_tail x (y ∷ ys) up))

-- ---- what a range and the facts behind it come to

-- the range ends with the fact
record Ends (r : NameRange) (f : Fact) : Type 0 where
  told : told_number r.told ≡ told_number f.told
  author : r.author ≡ f.name.author
  last : r.last ≡ f.name.counter
  long : r.first ≤ r.last

ends_alone : (f : Fact) → Ends (alone f) f
ends_alone f = record { told = refl; author = refl; last = refl; long = omega arith }

record Meets (r : NameRange) (g : Fact) : Type 0 where
  told : told_number r.told ≡ told_number g.told
  author : r.author ≡ g.name.author
  near : g.name.counter ≤ r.last + 1

meets_from : (r : NameRange) (g : Fact) → meets r g ≡ true → Meets r g
meets_from r g is =
    let fact = by_numbers (told_number r.told) (told_number g.told) r.author g.name.author g.name.counter r.last is in
    record { told = fact.0; author = fact.1; near = fact.2 }
  where
    by_numbers : (t u a b c l : ℕ) → ((t == u) && (a == b) && nat_le (c - l) 1) ≡ true → (t ≡ u) × (a ≡ b) × (c ≤ l + 1)
    by_numbers t u a b c l h = (grind (arith, nat_tests), grind (arith, nat_tests), grind (arith, nat_tests))

not_before : (r : NameRange) (f g : Fact) → Ends r f → Meets r g → before g f ≡ false → r.last ≤ g.name.counter
not_before r f g ends meets up =
    by_numbers (told_number f.told) f.name.author f.name.counter (told_number g.told) g.name.author g.name.counter r.last up
    (sym meets.told ∙ ends.told) (sym meets.author ∙ ends.author) ends.last
  where
    by_numbers : (t a c u b d l : ℕ) → comes_before u b d t a c ≡ false → u ≡ t → b ≡ a → l ≡ c → l ≤ d
    by_numbers t a c u b d l up told author last = grind (arith, nat_tests)

ends_extended : (r : NameRange) (f g : Fact) → Ends r f → Meets r g → before g f ≡ false → Ends (extended r g) g
ends_extended r f g ends meets up =
    let le = not_before r f g ends meets up in
    let long = ends.long in
    record { told = meets.told; author = meets.author; last = refl; long = omega arith }

-- ---- they tell the facts

tells_alone : (f : Fact) (t : Told) (n : Name) → tells (alone f) t n ≡ is_fact t n f
tells_alone f t n = by_numbers (told_number f.told) (told_number t) f.name.author n.author f.name.counter n.counter where
  by_numbers : (t u a b c d : ℕ) → ((t == u) && (a == b) && nat_le c d && nat_le d c) ≡ ((t == u) && (a == b) && (c == d))
  by_numbers t u a b c d = grind (arith, nat_tests)

tells_extended : (r : NameRange) (f g : Fact) (t : Told) (n : Name) → Ends r f → Meets r g → before g f ≡ false → tells (extended r g) t n ≡ (tells r t n || is_fact t n g)
tells_extended r f g t n ends meets up =
    by_numbers (told_number r.told) (told_number g.told) r.author g.name.author r.first r.last g.name.counter (told_number t) n.author n.counter
    meets.told meets.author ends.long (not_before r f g ends meets up) meets.near
  where
    by_numbers : (t u a b s l d v x c : ℕ) → t ≡ u → a ≡ b → s ≤ l → l ≤ d → d ≤ l + 1
        → ((t == v) && (a == x) && nat_le s c && nat_le c d) ≡ (((t == v) && (a == x) && nat_le s c && nat_le c l) || ((u == v) && (b == x) && (d == c)))
    by_numbers t u a b s l d v x c told author long le near = grind (arith, nat_tests)

or_assoc : (a b c : Bool) → ((a || b) || c) ≡ (a || (b || c))
or_assoc true b c = refl
or_assoc false b c = refl

told_from : (r : NameRange) (f : Fact) (fs : List Fact) (t : Told) (n : Name) → Ends r f → Rises f fs → tell (ranges_from r fs) t n ≡ (tells r t n || list_any (is_fact t n) fs)
told_from r f [] t n ends up = refl
told_from r f (g ∷ gs) t n ends up =
    by_test (meets r g) refl
    (λ is. told_from (extended r g) g gs t n (ends_extended r f g ends (meets_from r g is) up.0) up.1)
    (told_from (alone g) g gs t n (ends_alone g) up.1)
  where
    by_test : (b : Bool) → meets r g ≡ b
        → (meets r g ≡ true → tell (ranges_from (extended r g) gs) t n ≡ (tells (extended r g) t n || list_any (is_fact t n) gs))
        → tell (ranges_from (alone g) gs) t n ≡ (tells (alone g) t n || list_any (is_fact t n) gs)
        → tell (cond b (ranges_from (extended r g) gs) (r ∷ ranges_from (alone g) gs)) t n ≡ (tells r t n || (is_fact t n g || list_any (is_fact t n) gs))
    by_test true is one two =
        one is
        ∙ ap (λ b. b || list_any (is_fact t n) gs) (tells_extended r f g t n ends (meets_from r g is) up.0)
        ∙ or_assoc (tells r t n) (is_fact t n g) (list_any (is_fact t n) gs)
    by_test false is one two = ap (λ b. tells r t n || b) (two ∙ ap (λ b. b || list_any (is_fact t n) gs) (tells_alone g t n))

-- ---- they are in order, and as long as they can be

begins_as : (r s : NameRange) (fs : List Fact) → begins_apart r (ranges_from s fs) ≡ is_apart r s
begins_as r s [] = refl
begins_as r s (g ∷ gs) = by_test (meets s g) (begins_as r (extended s g) gs) where
  by_test : (b : Bool) → begins_apart r (ranges_from (extended s g) gs) ≡ is_apart r s → begins_apart r (cond b (ranges_from (extended s g) gs) (s ∷ ranges_from (alone g) gs)) ≡ is_apart r s
  by_test true rest = rest
  by_test false rest = refl

apart_from : (r : NameRange) (f g : Fact) → Ends r f → meets r g ≡ false → before g f ≡ false → is_apart r (alone g) ≡ true
apart_from r f g ends other up =
    by_numbers (told_number r.told) r.author r.last (told_number f.told) f.name.author f.name.counter (told_number g.told) g.name.author g.name.counter ends.told ends.author ends.last other up
  where
    by_numbers : (t a l u b c v x d : ℕ) → t ≡ u → a ≡ b → l ≡ c → ((t == v) && (a == x) && nat_le (d - l) 1) ≡ false → comes_before v x d u b c ≡ false → comes_before t a (l + 1) v x d ≡ true
    by_numbers t a l u b c v x d told author last other up = grind (arith, nat_tests)

range_test : (r : NameRange) → r.first ≤ r.last → r.author < 2 ^ 32 → r.last < 2 ^ 64 → is_range r ≡ true
range_test r long author last = by_numbers r.first r.last r.author 4294967296 18446744073709551616 long author last where
  by_numbers : (s l a m n : ℕ) → s ≤ l → a < m → l < n → (nat_le s l && nat_lt a m && nat_lt l n) ≡ true
  by_numbers s l a m n long author last = grind (arith, nat_tests)

range_ends : (r : NameRange) (f : Fact) → Ends r f → FactInRange f → is_range r ≡ true
range_ends r f ends in_range =
    range_test r ends.long (subst (λ a. a < 2 ^ 32) (sym ends.author) in_range.0) (subst (λ l. l < 2 ^ 64) (sym ends.last) in_range.1)

in_order_from : (r : NameRange) (f : Fact) (fs : List Fact) → Ends r f → FactInRange f → Rises f fs → All FactInRange fs → are_ranges (ranges_from r fs) ≡ true
in_order_from r f [] ends in_range up all = both_hold (is_range r && true) true (both_hold (is_range r) true (range_ends r f ends in_range) refl) refl
in_order_from r f (g ∷ gs) ends in_range up all =
    let later = All-tail FactInRange g gs all in
    let here = all 0 g (omega arith) in
    by_test (meets r g) refl
    (λ is. in_order_from (extended r g) g gs (ends_extended r f g ends (meets_from r g is) up.0) here up.1 later)
    (in_order_from (alone g) g gs (ends_alone g) here up.1 later)
  where
    by_test : (b : Bool) → meets r g ≡ b → (meets r g ≡ true → are_ranges (ranges_from (extended r g) gs) ≡ true) → are_ranges (ranges_from (alone g) gs) ≡ true
        → are_ranges (cond b (ranges_from (extended r g) gs) (r ∷ ranges_from (alone g) gs)) ≡ true
    by_test true is one two = one is
    by_test false is one two =
        both_hold (is_range r && begins_apart r (ranges_from (alone g) gs)) (are_ranges (ranges_from (alone g) gs))
        (both_hold (is_range r) (begins_apart r (ranges_from (alone g) gs)) (range_ends r f ends in_range) (begins_as r (alone g) gs ∙ apart_from r f g ends is up.0))
        two

-- ---- of facts in any order

pub in_order_sorted : (fs : List Fact) → IsSorted fact_impl.ghosts.cmp fs → All FactInRange fs → are_ranges (ranges_of fs) ≡ true
in_order_sorted [] up all = refl
in_order_sorted (f ∷ fs) up all = in_order_from (alone f) f fs (ends_alone f) (all 0 f (omega arith)) (rises f fs up) (All-tail FactInRange f fs all)

told_sorted : (fs : List Fact) (t : Told) (n : Name) → IsSorted fact_impl.ghosts.cmp fs → tell (ranges_of fs) t n ≡ list_any (is_fact t n) fs
told_sorted [] t n up = refl
told_sorted (f ∷ fs) t n up = told_from (alone f) f fs t n (ends_alone f) (rises f fs up) ∙ ap (λ b. b || list_any (is_fact t n) fs) (tells_alone f t n)

pub in_order_moved : (fs gs : List Fact) → IsPermutation fs gs → IsSorted fact_impl.ghosts.cmp gs → All FactInRange fs → are_ranges (ranges_of gs) ≡ true
in_order_moved fs gs moved up all = in_order_sorted gs up (All-permutation FactInRange fs gs moved all)

pub told_moved : (fs gs : List Fact) (t : Told) (n : Name) → IsPermutation fs gs → IsSorted fact_impl.ghosts.cmp gs → tell (ranges_of gs) t n ≡ list_any (is_fact t n) fs
told_moved fs gs t n moved up = told_sorted gs t n up ∙ sym (list_any-IsPermutation (is_fact t n) fs gs moved)
