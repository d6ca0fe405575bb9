-- Ranges in order that tell the same are the same.
use Rattle.std.proofs.Common.{◌≡◌, ℕ, ◌+◌, ◌≤◌, Bool, true, false, List, [], ◌∷◌, refl, sym, ap, ◌∙◌, inl, inr, arith}
use Rattle.std.specs.Prelude.{◌&&◌, ◌||◌, not}
use Rattle.std.proofs.lemmas.Bool.{false≢true, cases_lt}
use Rattle.grove_names.specs.declared.name.Name.{Name}
use Rattle.edit_ranges.specs.declared.told.Told.{Told}
use Rattle.edit_ranges.specs.declared.told.Told.TheVariants.{Named, Deleted}
use Rattle.edit_ranges.specs.declared.name_range.NameRange.{NameRange}
use Rattle.edit_ranges.specs.Ranges.{told_number, tells, tell, comes_before, are_ranges}
use Rattle.edit_ranges.proofs.InOrder.{one_of, false_from, Before, before_from, one_place, in_from, in_test, parts_of, first_le_last, told_behind, not_told_behind}

abbrev at : ℕ → ℕ → Name
at author counter = record { author = author; counter = counter }

abbrev AreSame : List NameRange → List NameRange → Type 0
AreSame xs ys = (t : Told) (n : Name) → tell xs t n ≡ tell ys t n

-- a list tells what its first range tells
told_first : (x : NameRange) (xs : List NameRange) (t : Told) (n : Name) → tells x t n ≡ true → tell (x ∷ xs) t n ≡ true
told_first x xs t n is = ap (λ b. b || tell xs t n) is

first_told : (x : NameRange) (xs : List NameRange) → are_ranges (x ∷ xs) ≡ true → tell (x ∷ xs) x.told (at x.author x.first) ≡ true
first_told x xs h = told_first x xs x.told (at x.author x.first) (in_test x x.told (at x.author x.first) refl refl (omega arith) (first_le_last x (parts_of x xs h).is_range))

-- nothing that is told comes before the first range
pub not_before_first : (y : NameRange) (ys : List NameRange) (t : Told) (n : Name) → are_ranges (y ∷ ys) ≡ true → tell (y ∷ ys) t n ≡ true
    → comes_before (told_number t) n.author n.counter (told_number y.told) y.author y.first ≡ false
not_before_first y ys t n h is = false_from (comes_before (told_number t) n.author n.counter (told_number y.told) y.author y.first) (λ before.
    let less = before_from (told_number t) n.author n.counter (told_number y.told) y.author y.first before in
    let le = first_le_last y (parts_of y ys h).is_range in
    elim (one_of (tells y t n) (tell ys t n) is) [
      | inl here ↦
          let there = in_from y t n here in
          not_in (told_number t) n.author n.counter (told_number y.told) y.author y.first less there.told there.author there.from
      | inr later ↦ not_behind (told_number t) n.author n.counter (told_number y.told) y.author y.first y.last less le (told_behind y ys t n h later)
    ])
  where
    not_in : (t a c u b d : ℕ) → Before t a c u b d → u ≡ t → b ≡ a → d ≤ c → ⊥
    not_in t a c u b d less told author le = grind arith

    not_behind : (t a c u b d e : ℕ) → Before t a c u b d → d ≤ e → Before u b (e + 1) t a c → ⊥
    not_behind t a c u b d e less le behind = grind arith

pub told_from_number : (t u : Told) → told_number t ≡ told_number u → t ≡ u
told_from_number Named Named h = refl
told_from_number Named Deleted h = absurd (omega arith)
told_from_number Deleted Named h = absurd (omega arith)
told_from_number Deleted Deleted h = refl

pub range_from_fields : (x y : NameRange) → x.told ≡ y.told → x.author ≡ y.author → x.first ≡ y.first → x.last ≡ y.last → x ≡ y
range_from_fields x y told author first last =
    ap (λ (v : Told). record { told = v; author = x.author; first = x.first; last = x.last }) told
    ∙ ap (λ (v : ℕ). record { told = y.told; author = v; first = x.first; last = x.last }) author
    ∙ ap (λ (v : ℕ). record { told = y.told; author = y.author; first = v; last = x.last }) first
    ∙ ap (λ (v : ℕ). record { told = y.told; author = y.author; first = y.first; last = v }) last

-- the first ranges begin at one place
record BeginAlike (x y : NameRange) : Type 0 where
  told : told_number x.told ≡ told_number y.told
  author : x.author ≡ y.author
  first : x.first ≡ y.first

begin_alike : (x y : NameRange) (xs ys : List NameRange) → are_ranges (x ∷ xs) ≡ true → are_ranges (y ∷ ys) ≡ true → AreSame (x ∷ xs) (y ∷ ys) → BeginAlike x y
begin_alike x y xs ys of_x of_y same =
    let one = not_before_first y ys x.told (at x.author x.first) of_y (sym (same x.told (at x.author x.first)) ∙ first_told x xs of_x) in
    let two = not_before_first x xs y.told (at y.author y.first) of_x (same y.told (at y.author y.first) ∙ first_told y ys of_y) in
    let place = one_place (told_number x.told) x.author x.first (told_number y.told) y.author y.first one two in
    record { told = place.0; author = place.1; first = place.2 }

-- the first of them is not shorter than the second
not_shorter : (x y : NameRange) (xs ys : List NameRange) → are_ranges (x ∷ xs) ≡ true → are_ranges (y ∷ ys) ≡ true → AreSame (x ∷ xs) (y ∷ ys) → BeginAlike x y → y.last ≤ x.last
not_shorter x y xs ys of_x of_y same alike = elim (cases_lt x.last y.last) [
  | inr le ↦ le
  | inl shorter ↦
      let n = at y.author (x.last + 1) in
      let le = first_le_last x (parts_of x xs of_x).is_range in
      let first = alike.first in
      let in_y : tell (y ∷ ys) y.told n ≡ true = told_first y ys y.told n (in_test y y.told n refl refl (omega arith) (omega arith)) in
      elim (one_of (tells x y.told n) (tell xs y.told n) (same y.told n ∙ in_y)) [
        | inl here ↦ let there = (in_from x y.told n here).to in absurd (omega arith)
        | inr later ↦
            let behind = told_behind x xs y.told n of_x later in
            absurd (not_itself (told_number x.told) x.author (x.last + 1) (told_number y.told) y.author behind alike.told alike.author)
      ]
]
  where
    not_itself : (t a c u b : ℕ) → Before t a c u b c → t ≡ u → a ≡ b → ⊥
    not_itself t a c u b less told author = grind arith

alike_back : (x y : NameRange) → BeginAlike x y → BeginAlike y x
alike_back x y alike = record { told = sym alike.told; author = sym alike.author; first = sym alike.first }

same_last : (x y : ℕ) → x ≤ y → y ≤ x → y ≡ x
same_last x y le ge = omega arith

same_first : (x y : NameRange) (xs ys : List NameRange) → are_ranges (x ∷ xs) ≡ true → are_ranges (y ∷ ys) ≡ true → AreSame (x ∷ xs) (y ∷ ys) → x ≡ y
same_first x y xs ys of_x of_y same =
    let alike = begin_alike x y xs ys of_x of_y same in
    let one = not_shorter x y xs ys of_x of_y same alike in
    let two = not_shorter y x ys xs of_y of_x (λ t n. sym (same t n)) (alike_back x y alike) in
    range_from_fields x y (told_from_number x.told y.told alike.told) alike.author alike.first (same_last y.last x.last one two)

-- the rest tells what the whole does and the first range does not
told_rest : (x : NameRange) (xs : List NameRange) (t : Told) (n : Name) → are_ranges (x ∷ xs) ≡ true → tell xs t n ≡ (not (tells x t n) && tell (x ∷ xs) t n)
told_rest x xs t n h = by_test (tells x t n) refl where
  by_test : (b : Bool) → tells x t n ≡ b → tell xs t n ≡ (not b && (b || tell xs t n))
  by_test true is = false_from (tell xs t n) (λ later. false≢true (sym (not_told_behind x t n (told_behind x xs t n h later)) ∙ is))
  by_test false is = refl

pub one_list : (xs ys : List NameRange) → are_ranges xs ≡ true → are_ranges ys ≡ true → ((t : Told) (n : Name) → tell xs t n ≡ tell ys t n) → xs ≡ ys
one_list [] [] of_x of_y same = refl
one_list [] (y ∷ ys) of_x of_y same = absurd (false≢true (same y.told (at y.author y.first) ∙ first_told y ys of_y))
one_list (x ∷ xs) [] of_x of_y same = absurd (false≢true (sym (same x.told (at x.author x.first)) ∙ first_told x xs of_x))
one_list (x ∷ xs) (y ∷ ys) of_x of_y same =
    let first = same_first x y xs ys of_x of_y same in
    let rest = one_list xs ys (parts_of x xs of_x).rest (parts_of y ys of_y).rest (λ t n.
    told_rest x xs t n of_x
    ∙ ap (λ (z : NameRange). not (tells z t n) && tell (x ∷ xs) t n) first
    ∙ ap (λ b. not (tells y t n) && b) (same t n)
    ∙ sym (told_rest y ys t n of_y)) in
    ap (λ (z : NameRange). z ∷ xs) first ∙ ap (λ (zs : List NameRange). y ∷ zs) rest
