-- Ranges in order: what each tells lies behind what the earlier ones tell.
use Rattle.std.proofs.Common.{◌≡◌, ℕ, ◌+◌, ◌<◌, ◌≤◌, ◌⊎◌, Bool, true, false, List, [], ◌∷◌, refl, inl, inr, arith}
use Rattle.std.specs.Prelude.{◌&&◌, ◌||◌, ◌==◌, nat_le, nat_lt}
use Rattle.std.proofs.lemmas.Bool.Decides.{nat_tests}
use Rattle.grove_names.specs.declared.name.Name.{Name}
use Rattle.edit_ranges.specs.declared.told.Told.{Told}
use Rattle.edit_ranges.specs.declared.name_range.NameRange.{NameRange}
use Rattle.edit_ranges.specs.Ranges.{told_number, tells, tell, comes_before, is_apart, is_range, begins_apart, are_ranges}

pub both : (a b : Bool) → (a && b) ≡ true → (a ≡ true) × (b ≡ true)
both true b h = (refl, h)
both false b h = absurd cc

pub one_of : (a b : Bool) → (a || b) ≡ true → (a ≡ true) ⊎ (b ≡ true)
one_of true b h = inl refl
one_of false b h = inr h

pub true_from : (b : Bool) → (b ≡ false → ⊥) → b ≡ true
true_from true h = refl
true_from false h = absurd (h refl)

pub false_from : (b : Bool) → (b ≡ true → ⊥) → b ≡ false
false_from true h = absurd (h refl)
false_from false h = refl

pub both_hold : (a b : Bool) → a ≡ true → b ≡ true → (a && b) ≡ true
both_hold a b is also = rw is also

pub or_false : (a b : Bool) → b ≡ false → (a || b) ≡ a
or_false true b h = refl
or_false false b h = h

-- ---- the order, on numbers

-- the order as a fact
abbrev pub Before : ℕ → ℕ → ℕ → ℕ → ℕ → ℕ → Type 0
Before t a c u b d = (t < u) ⊎ ((t ≡ u) × (a < b)) ⊎ ((t ≡ u) × (a ≡ b) × (c < d))

pub before_from : (t a c u b d : ℕ) → comes_before t a c u b d ≡ true → Before t a c u b d
before_from t a c u b d h = grind (arith, nat_tests)

pub before_test : (t a c u b d : ℕ) → Before t a c u b d → comes_before t a c u b d ≡ true
before_test t a c u b d h = grind (arith, nat_tests)

-- what comes before something comes before all behind it
pub before_then : (t a c u b d e v x f : ℕ) → Before t a c u b d → d ≤ e → Before u b e v x f → Before t a c v x f
before_then t a c u b d e v x f first le second = grind arith

pub before_not_after : (t a c u b d : ℕ) → Before t a c u b d → Before u b d t a c → ⊥
before_not_after t a c u b d first second = grind arith

-- where neither comes before the other, they are one
pub one_place : (t a c u b d : ℕ) → comes_before t a c u b d ≡ false → comes_before u b d t a c ≡ false → (t ≡ u) × (a ≡ b) × (c ≡ d)
one_place t a c u b d first second = (grind (arith, nat_tests), grind (arith, nat_tests), grind (arith, nat_tests))

eq_from : (a b : ℕ) → (a == b) ≡ true → a ≡ b
eq_from a b h = grind (arith, nat_tests)

le_from : (a b : ℕ) → nat_le a b ≡ true → a ≤ b
le_from a b h = grind (arith, nat_tests)

-- ---- ranges

-- what a range tells, by numbers
pub record IsIn (r : NameRange) (t : ℕ) (n : Name) : Type 0 where
  pub told : told_number r.told ≡ t
  pub author : r.author ≡ n.author
  pub from : r.first ≤ n.counter
  pub to : n.counter ≤ r.last

record Four (a b c d : Bool) : Type 0 where
  first : a ≡ true
  second : b ≡ true
  third : c ≡ true
  fourth : d ≡ true

four : (a b c d : Bool) → (a && b && c && d) ≡ true → Four a b c d
four true true true d h = record { first = refl; second = refl; third = refl; fourth = h }
four true true false d h = absurd cc
four true false c d h = absurd cc
four false b c d h = absurd cc

pub in_from : (r : NameRange) (t : Told) (n : Name) → tells r t n ≡ true → IsIn r (told_number t) n
in_from r t n h =
    let all = four (told_number r.told == told_number t) (r.author == n.author) (nat_le r.first n.counter) (nat_le n.counter r.last) h in
    record {
      told = eq_from (told_number r.told) (told_number t) all.first;
      author = eq_from r.author n.author all.second;
      from = le_from r.first n.counter all.third;
      to = le_from n.counter r.last all.fourth;
    }

pub in_test : (r : NameRange) (t : Told) (n : Name) → told_number r.told ≡ told_number t → r.author ≡ n.author → r.first ≤ n.counter → n.counter ≤ r.last → tells r t n ≡ true
in_test r t n told author from to = grind (arith, nat_tests)

-- the parts of ranges in order
pub record Parts (r : NameRange) (rs : List NameRange) : Type 0 where
  pub is_range : is_range r ≡ true
  pub apart : begins_apart r rs ≡ true
  pub rest : are_ranges rs ≡ true

pub parts_of : (r : NameRange) (rs : List NameRange) → are_ranges (r ∷ rs) ≡ true → Parts r rs
parts_of r rs h =
    let all = both (is_range r && begins_apart r rs) (are_ranges rs) h in
    let two = both (is_range r) (begins_apart r rs) all.0 in
    record { is_range = two.0; apart = two.1; rest = all.1 }

pub first_le_last : (r : NameRange) → is_range r ≡ true → r.first ≤ r.last
first_le_last r h =
    let two = both (nat_le r.first r.last && nat_lt r.author 4294967296) (nat_lt r.last 18446744073709551616) h in
    let one = both (nat_le r.first r.last) (nat_lt r.author 4294967296) two.0 in
    le_from r.first r.last one.0

-- this of the name comes behind the range, and not right behind it
abbrev pub IsBehind : NameRange → Told → Name → Type 0
IsBehind r t n = Before (told_number r.told) r.author (r.last + 1) (told_number t) n.author n.counter

apart_from : (r s : NameRange) → is_apart r s ≡ true → Before (told_number r.told) r.author (r.last + 1) (told_number s.told) s.author s.first
apart_from r s h = before_from (told_number r.told) r.author (r.last + 1) (told_number s.told) s.author s.first h

behind_in : (r s : NameRange) (t : Told) (n : Name) → is_apart r s ≡ true → IsIn s (told_number t) n → IsBehind r t n
behind_in r s t n apart there =
    let at = apart_from r s apart in
    let told = there.told in
    let author = there.author in
    let from = there.from in
    in_numbers (told_number r.told) r.author (r.last + 1) (told_number s.told) s.author s.first (told_number t) n.author n.counter at told author from
  where
    in_numbers : (t a c u b d v x f : ℕ) → Before t a c u b d → u ≡ v → b ≡ x → d ≤ f → Before t a c v x f
    in_numbers t a c u b d v x f first told author le = grind arith

-- what ranges in order tell lies behind the one before them
pub told_behind : (r : NameRange) (rs : List NameRange) (t : Told) (n : Name) → are_ranges (r ∷ rs) ≡ true → tell rs t n ≡ true → IsBehind r t n
told_behind r [] t n h is = absurd cc
told_behind r (s ∷ ss) t n h is =
    let parts = parts_of r (s ∷ ss) h in
    let le = first_le_last s (parts_of s ss parts.rest).is_range in
    elim (one_of (tells s t n) (tell ss t n) is) [
      | inl here ↦ behind_in r s t n parts.apart (in_from s t n here)
      | inr later ↦
          before_then (told_number r.told) r.author (r.last + 1) (told_number s.told) s.author s.first (s.last + 1) (told_number t) n.author n.counter
          (apart_from r s parts.apart) (omega arith) (told_behind s ss t n parts.rest later)
    ]

-- a range does not tell what lies behind it
pub not_told_behind : (r : NameRange) (t : Told) (n : Name) → IsBehind r t n → tells r t n ≡ false
not_told_behind r t n behind = false_from (tells r t n) (λ is.
    let there = in_from r t n is in
    not_both (told_number r.told) r.author r.last (told_number t) n.author n.counter behind there.told there.author there.to)
  where
    not_both : (t a c u b d : ℕ) → Before t a (c + 1) u b d → t ≡ u → a ≡ b → d ≤ c → ⊥
    not_both t a c u b d behind told author le = grind arith
