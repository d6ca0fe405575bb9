-- Where a search by halves ends among ranges in order.
use Rattle.std.proofs.Common.{◌≡◌, ℕ, zero, suc, ◌+◌, ◌<◌, ◌≤◌, Bool, true, false, cond, List, [], ◌∷◌, length, get_or, refl, sym, ap, ◌∙◌, arith}
use Rattle.std.specs.Prelude.{◌||◌}
use Rattle.std.specs.List.Sorted.{IsPartitionedBy, IsPartitionPoint}
use Rattle.std.proofs.lemmas.Bool.{false≢true}
use Rattle.grove_names.specs.declared.name.Name.{Name}
use Rattle.edit_ranges.specs.declared.told.Told.{Told}
use Rattle.edit_ranges.specs.declared.name_range.NameRange.{NameRange}
use Rattle.edit_ranges.specs.Ranges.{told_number, tells, tell, ends_before, is_apart, is_range, are_ranges}
use Rattle.edit_ranges.proofs.InOrder.{or_false, false_from, Before, before_from, before_test, in_from, parts_of, first_le_last, told_behind}

-- where a range ends before something, so does the one before it
before_step : (r s : NameRange) (t : Told) (n : Name) → is_apart r s ≡ true → is_range s ≡ true → ends_before s t n ≡ true → ends_before r t n ≡ true
before_step r s t n apart range before =
    before_test (told_number r.told) r.author r.last (told_number t) n.author n.counter
    (in_numbers (told_number r.told) r.author r.last (told_number s.told) s.author s.first s.last (told_number t) n.author n.counter
    (before_from (told_number r.told) r.author (r.last + 1) (told_number s.told) s.author s.first apart)
    (first_le_last s range)
    (before_from (told_number s.told) s.author s.last (told_number t) n.author n.counter before))
  where
    in_numbers : (t a c u b d e v x f : ℕ) → Before t a (c + 1) u b d → d ≤ e → Before u b e v x f → Before t a c v x f
    in_numbers t a c u b d e v x f first le second = grind arith

before_first : (r : NameRange) (rs : List NameRange) (t : Told) (n : Name) (j : ℕ) (d : NameRange) → are_ranges (r ∷ rs) ≡ true → j < length rs → ends_before (get_or rs j d) t n ≡ true → ends_before r t n ≡ true
before_first r [] t n j d h lt before = absurd (omega arith)
before_first r (s ∷ ss) t n zero d h lt before =
    let parts = parts_of r (s ∷ ss) h in
    before_step r s t n parts.apart (parts_of s ss parts.rest).is_range before
before_first r (s ∷ ss) t n (suc j) d h lt before =
    let parts = parts_of r (s ∷ ss) h in
    before_step r s t n parts.apart (parts_of s ss parts.rest).is_range (before_first s ss t n j d parts.rest (omega arith) before)

pub parted : (t : Told) (n : Name) (rs : List NameRange) → are_ranges rs ≡ true → IsPartitionedBy (λ r. ends_before r t n) rs
parted t n [] h i j d le lt before = absurd (omega arith)
parted t n (r ∷ rs) h zero zero d le lt before = before
parted t n (r ∷ rs) h zero (suc j) d le lt before = before_first r rs t n j d h (omega arith) before
parted t n (r ∷ rs) h (suc i) zero d le lt before = absurd (omega arith)
parted t n (r ∷ rs) h (suc i) (suc j) d le lt before = parted t n rs (parts_of r rs h).rest i j d (omega arith) (omega arith) before

-- what the first range tells that does not end before
abbrev found : Told → Name → List NameRange → Bool
found t n [] = false
found t n (r ∷ rs) = cond (ends_before r t n) (found t n rs) (tells r t n)

behind_before : (r : NameRange) (rs : List NameRange) (t : Told) (n : Name) → are_ranges (r ∷ rs) ≡ true → tell rs t n ≡ true → ends_before r t n ≡ true
behind_before r rs t n h is =
    before_test (told_number r.told) r.author r.last (told_number t) n.author n.counter
    (nearer (told_number r.told) r.author r.last (told_number t) n.author n.counter (told_behind r rs t n h is))
  where
    nearer : (t a c u b d : ℕ) → Before t a (c + 1) u b d → Before t a c u b d
    nearer t a c u b d behind = grind arith

not_told : (r : NameRange) (t : Told) (n : Name) → ends_before r t n ≡ true → tells r t n ≡ false
not_told r t n before = false_from (tells r t n) (λ is.
    let there = in_from r t n is in
    not_both (told_number r.told) r.author r.last (told_number t) n.author n.counter (before_from (told_number r.told) r.author r.last (told_number t) n.author n.counter before) there.told there.author there.to)
  where
    not_both : (t a c u b d : ℕ) → Before t a c u b d → t ≡ u → a ≡ b → d ≤ c → ⊥
    not_both t a c u b d before told author le = grind arith

tell_is_found : (t : Told) (n : Name) (rs : List NameRange) → are_ranges rs ≡ true → tell rs t n ≡ found t n rs
tell_is_found t n [] h = refl
tell_is_found t n (r ∷ rs) h = by_test (ends_before r t n) refl (tell_is_found t n rs (parts_of r rs h).rest) where
  by_test : (b : Bool) → ends_before r t n ≡ b → tell rs t n ≡ found t n rs → (tells r t n || tell rs t n) ≡ cond b (found t n rs) (tells r t n)
  by_test true is rest = ap (λ b. b || tell rs t n) (not_told r t n is) ∙ rest
  by_test false is rest = or_false (tells r t n) (tell rs t n) (false_from (tell rs t n) (λ later. false≢true (sym is ∙ behind_before r rs t n h later)))

abbrev IsPoint : Told → Name → List NameRange → ℕ → Type 0
IsPoint t n rs i = IsPartitionPoint (λ r. ends_before r t n ≡ true) (λ r. ends_before r t n ≡ false) rs i

point_in_rest : (t : Told) (n : Name) (r : NameRange) (rs : List NameRange) (i : ℕ) → IsPoint t n (r ∷ rs) (suc i) → IsPoint t n rs i
point_in_rest t n r rs i point = (λ k d le lt. point.0 (suc k) d (omega arith) (omega arith), λ k d le lt. point.1 (suc k) d (omega arith) (omega arith))

-- the range at the point decides
found_at : (t : Told) (n : Name) (rs : List NameRange) (i : ℕ) (d : NameRange) → i < length rs → IsPoint t n rs i → found t n rs ≡ tells (get_or rs i d) t n
found_at t n [] i d lt point = absurd (omega arith)
found_at t n (r ∷ rs) zero d lt point = ap (λ b. cond b (found t n rs) (tells r t n)) (point.1 0 r (omega arith) (omega arith))
found_at t n (r ∷ rs) (suc i) d lt point =
    ap (λ b. cond b (found t n rs) (tells r t n)) (point.0 0 r (omega arith) (omega arith)) ∙ found_at t n rs i d (omega arith) (point_in_rest t n r rs i point)

-- and where all end before, nothing is found
found_past : (t : Told) (n : Name) (rs : List NameRange) (i : ℕ) → length rs ≤ i → IsPoint t n rs i → found t n rs ≡ false
found_past t n [] i le point = refl
found_past t n (r ∷ rs) zero le point = absurd (omega arith)
found_past t n (r ∷ rs) (suc i) le point =
    ap (λ b. cond b (found t n rs) (tells r t n)) (point.0 0 r (omega arith) (omega arith)) ∙ found_past t n rs i (omega arith) (point_in_rest t n r rs i point)

pub told_at : (t : Told) (n : Name) (rs : List NameRange) (i : ℕ) (d : NameRange) → are_ranges rs ≡ true → i < length rs → IsPartitionPoint (λ r. ends_before r t n ≡ true) (λ r. ends_before r t n ≡ false) rs i → tell rs t n ≡ tells (get_or rs i d) t n
told_at t n rs i d h lt point = tell_is_found t n rs h ∙ found_at t n rs i d lt point

pub told_past : (t : Told) (n : Name) (rs : List NameRange) (i : ℕ) → are_ranges rs ≡ true → length rs ≤ i → IsPartitionPoint (λ r. ends_before r t n ≡ true) (λ r. ends_before r t n ≡ false) rs i → tell rs t n ≡ false
told_past t n rs i h le point = tell_is_found t n rs h ∙ found_past t n rs i le point
