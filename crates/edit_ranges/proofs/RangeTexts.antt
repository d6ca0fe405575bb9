-- The lines of ranges.
use Rattle.std.proofs.Common.{◌≡◌, ◌≢◌, ℕ, suc, ◌-◌, ◌<◌, ◌≤◌, ◌^◌, Bool, true, false, cond, List, [], ◌∷◌, ◌++◌, Option, Some, None, length, get_or, take, drop, decimal, refl, sym, ap, subst, ◌∙◌, inl, arith, append_assoc, append-nil}
use Rattle.std.specs.Prelude.{◌&&◌, ◌==◌, nat_le, nat_lt, unwrap_or}
use Rattle.std.proofs.lemmas.Bool.Decides.{nat_tests}
use Rattle.std.proofs.lemmas.List.{take_rest}
use Rattle.std.proofs.lemmas.Grind.{flat_map-append}
use Rattle.std.proofs.lemmas.Fmt.{decimal_injective}
use Rattle.text_parts.specs.Number.{begins_with_digit}
use Rattle.text_parts.specs.Separated.{Lacks}
use Rattle.text_parts.proofs.Numbers.{Lacks-decimal}
use Rattle.text_parts.proofs.Parts.{Lacks-append, Lacks-separated, first_part}
use Rattle.grove_names.specs.declared.name.Name.{Name}
use Rattle.grove_names.specs.Name.{InRange, name_text}
use Rattle.grove_names.proofs.Texts.{Lacks-name_text, name_text_injective}
use Rattle.edit_ranges.specs.declared.told.Told.{Told}
use Rattle.edit_ranges.specs.declared.told.Told.TheVariants.{Named, Deleted}
use Rattle.edit_ranges.specs.declared.name_range.NameRange.{NameRange}
use Rattle.edit_ranges.specs.Ranges.{is_range, is_apart, are_ranges}
use Rattle.edit_ranges.specs.Text.{sign, last_text, range_text, range_line, summary_text}
use Rattle.edit_ranges.proofs.InOrder.{parts_of, first_le_last, both}
use Rattle.edit_ranges.proofs.OneList.{range_from_fields}

-- ---- the numbers of a range

abbrev pub first_name : NameRange → Name
first_name r = record { author = r.author; counter = r.first }

pub record Fit (r : NameRange) : Type 0 where
  pub author : r.author < 2 ^ 32
  pub long : r.first ≤ r.last
  pub last : r.last < 2 ^ 64

pub numbers_fit : (r : NameRange) → is_range r ≡ true → Fit r
numbers_fit r is =
    let two = both (nat_le r.first r.last && nat_lt r.author 4294967296) (nat_lt r.last 18446744073709551616) is in
    let one = both (nat_le r.first r.last) (nat_lt r.author 4294967296) two.0 in
    record { author = lt_from r.author 4294967296 one.1; long = first_le_last r is; last = lt_from r.last 18446744073709551616 two.1 }
  where
    lt_from : (a b : ℕ) → nat_lt a b ≡ true → a < b
    lt_from a b h = grind (arith, nat_tests)

pub first_in_range : (r : NameRange) → is_range r ≡ true → InRange (first_name r)
first_in_range r is =
    let fit = numbers_fit r is in
    let long = fit.long in
    let last = fit.last in
    (fit.author, omega arith)

-- ---- what stands behind the first name

eq_from : (a b : ℕ) → (a == b) ≡ true → a ≡ b
eq_from a b h = grind (arith, nat_tests)

differ_from : (a b : ℕ) → (a == b) ≡ false → a ≢ b
differ_from a b h same = grind (arith, nat_tests)

-- it begins with no digit
pub no_digit_behind : (first last : ℕ) → begins_with_digit (last_text first last) ≡ false
no_digit_behind first last = by_test (first == last) where
  by_test : (b : Bool) → begins_with_digit (cond b [] (45 ∷ decimal last)) ≡ false
  by_test true = refl
  by_test false = refl

-- the number behind a dash is the last counter, which is not the first
pub last_is_read : (text : List ℕ) (first last read : ℕ) → 1 ≤ length text → take (length text - 1) (drop 1 text) ≡ decimal read → read < 2 ^ 64 → last < 2 ^ 64
    → text ≡ last_text first last → (read ≡ last) × (first ≢ last)
last_is_read text first last read some found fits small spells = by_test (first == last) refl spells where
  by_test : (b : Bool) → (first == last) ≡ b → text ≡ cond b [] (45 ∷ decimal last) → (read ≡ last) × (first ≢ last)
  by_test true same spells = absurd (omega (arith, ap length spells))
  by_test false other spells =
      let digits : drop 1 text ≡ decimal last = ap (drop 1) spells in
      (decimal_injective read last fits small (sym found ∙ take_rest text 1 ∙ digits), differ_from first last other)

-- reading the last counter behind the first answers it
pub last_answered : (answer : Option ℕ) (counter first last : ℕ) (rest : List ℕ) → counter ≡ first
    → ((n : ℕ) → counter ≤ n → n < 2 ^ 64 → rest ≡ last_text counter n → answer ≡ Some n)
    → first ≤ last → last < 2 ^ 64 → rest ≡ last_text first last → answer ≡ Some last
last_answered answer counter first last rest is only long small spells =
    only last (omega arith) small (spells ∙ ap (λ n. last_text n last) (sym is))

pub some_same : (m n : ℕ) → Some m ≡ Some n → m ≡ n
some_same m n same = ap (λ (o : Option ℕ). unwrap_or o 0) same

pub none_some : {X : Type 0} (x : X) → None ≡ Some x → ⊥
none_some x same = cc

-- ---- a range more

and_true : (b : Bool) → (b && true) ≡ b
and_true true = refl
and_true false = refl

-- a range may stand behind ranges in order where it is apart from the last of them
pub follows : (rs : List NameRange) (r d : NameRange) → are_ranges rs ≡ true → is_range r ≡ true → 1 ≤ length rs → are_ranges (rs ++ r ∷ []) ≡ is_apart (get_or rs (length rs - 1) d) r
follows [] r d in_order range some = absurd (omega arith)
follows (x ∷ []) r d in_order range some =
    ap (λ b. (b && is_apart x r) && ((is_range r && true) && true)) (parts_of x [] in_order).is_range
    ∙ ap (λ b. is_apart x r && ((b && true) && true)) range
    ∙ and_true (is_apart x r)
follows (x ∷ y ∷ ys) r d in_order range some =
    let parts = parts_of x (y ∷ ys) in_order in
    let place : length (x ∷ y ∷ ys) - 1 ≡ suc (length (y ∷ ys) - 1) = omega arith in
    ap (λ b. (b && is_apart x y) && are_ranges ((y ∷ ys) ++ r ∷ [])) parts.is_range
    ∙ ap (λ b. b && are_ranges ((y ∷ ys) ++ r ∷ [])) parts.apart
    ∙ follows (y ∷ ys) r d parts.rest range (omega arith)
    ∙ ap (λ k. is_apart (get_or (x ∷ y ∷ ys) k d) r) (sym place)

pub summary_text-push : (rs : List NameRange) (r : NameRange) → summary_text (rs ++ r ∷ []) ≡ summary_text rs ++ range_line r
summary_text-push rs r = flat_map-append range_line rs (r ∷ []) ∙ ap (λ (line : List ℕ). summary_text rs ++ line) (append-nil (range_line r))

-- the next line was read
pub range_read : (text rest line after : List ℕ) (rs : List NameRange) (r : NameRange) → text ≡ summary_text rs ++ rest → rest ≡ line ++ 10 ∷ after → line ≡ range_text r
    → text ≡ summary_text (rs ++ r ∷ []) ++ after
range_read text rest line after rs r so_far parts spells =
    let ended : line ++ 10 ∷ after ≡ range_line r ++ after = ap (λ (l : List ℕ). l ++ 10 ∷ after) spells ∙ sym (append_assoc (range_text r) (10 ∷ []) after) in
    so_far ∙ ap (λ (x : List ℕ). summary_text rs ++ x) (parts ∙ ended) ∙ sym (append_assoc (summary_text rs) (range_line r) after) ∙ ap (λ (t : List ℕ). t ++ after) (sym (summary_text-push rs r))

-- ---- one range for each line

same_sign : (t u : Told) → sign t ≡ sign u → t ≡ u
same_sign Named Named same = refl
same_sign Named Deleted same = absurd (omega arith)
same_sign Deleted Named same = absurd (omega arith)
same_sign Deleted Deleted same = refl

same_first : (m n : ℕ) (x y : List ℕ) → m ∷ x ≡ n ∷ y → m ≡ n
same_first m n x y same = ap (λ (line : List ℕ). get_or line 0 0) same

same_rest : (m n : ℕ) (x y : List ℕ) → m ∷ x ≡ n ∷ y → x ≡ y
same_rest m n x y same = ap (drop 1) same

Lacks_dash : (r : NameRange) → is_range r ≡ true → Lacks 45 (name_text (first_name r))
Lacks_dash r is = Lacks-name_text 45 (first_name r) (first_in_range r is) (λ h. omega arith) (inl (omega arith))

no_dash_in_one : (a b : List ℕ) (n : ℕ) → Lacks 45 a → a ++ [] ≡ b ++ 45 ∷ decimal n → ⊥
no_dash_in_one a b n none same = Lacks-separated 45 b (decimal n) (subst (λ (x : List ℕ). Lacks 45 x) (sym (append-nil a) ∙ same) none)

-- the numbers of two ranges
record AlikeNumbers (r s : NameRange) : Type 0 where
  name : first_name r ≡ first_name s
  last : r.last ≡ s.last

same_numbers : (r s : NameRange) → is_range r ≡ true → is_range s ≡ true
    → name_text (first_name r) ++ last_text r.first r.last ≡ name_text (first_name s) ++ last_text s.first s.last → AlikeNumbers r s
same_numbers r s of_r of_s same = by_tests (r.first == r.last) (s.first == s.last) refl refl same where
  by_tests : (b c : Bool) → (r.first == r.last) ≡ b → (s.first == s.last) ≡ c
      → name_text (first_name r) ++ cond b [] (45 ∷ decimal r.last) ≡ name_text (first_name s) ++ cond c [] (45 ∷ decimal s.last) → AlikeNumbers r s
  by_tests true true is also same =
      let names = name_text_injective (first_name r) (first_name s) (first_in_range r of_r) (first_in_range s of_s)
      (sym (append-nil (name_text (first_name r))) ∙ same ∙ append-nil (name_text (first_name s))) in
      record { name = names; last = sym (eq_from r.first r.last is) ∙ ap (λ (n : Name). n.counter) names ∙ eq_from s.first s.last also }
  by_tests true false is also same = absurd (no_dash_in_one (name_text (first_name r)) (name_text (first_name s)) s.last (Lacks_dash r of_r) same)
  by_tests false true is also same = absurd (no_dash_in_one (name_text (first_name s)) (name_text (first_name r)) r.last (Lacks_dash s of_s) (sym same))
  by_tests false false is also same =
      let parts = first_part 45 (name_text (first_name r)) (name_text (first_name s)) (decimal r.last) (decimal s.last) (Lacks_dash r of_r) (Lacks_dash s of_s) same in
      record {
        name = name_text_injective (first_name r) (first_name s) (first_in_range r of_r) (first_in_range s of_s) parts.0;
        last = decimal_injective r.last s.last (numbers_fit r of_r).last (numbers_fit s of_s).last parts.1;
      }

pub range_text_injective : (r s : NameRange) → is_range r ≡ true → is_range s ≡ true → range_text r ≡ range_text s → r ≡ s
range_text_injective r s of_r of_s same =
    let behind_r = name_text (first_name r) ++ last_text r.first r.last in
    let behind_s = name_text (first_name s) ++ last_text s.first s.last in
    let told = same_sign r.told s.told (same_first (sign r.told) (sign s.told) behind_r behind_s same) in
    let numbers = same_numbers r s of_r of_s (same_rest (sign r.told) (sign s.told) behind_r behind_s same) in
    range_from_fields r s told (ap (λ (n : Name). n.author) numbers.name) (ap (λ (n : Name). n.counter) numbers.name) numbers.last

-- ---- a line has no LF in it

sign_not_LF : (t : Told) → sign t ≡ 10 → ⊥
sign_not_LF Named same = omega arith
sign_not_LF Deleted same = omega arith

Lacks-last_text : (first last : ℕ) → last < 2 ^ 64 → Lacks 10 (last_text first last)
Lacks-last_text first last small = by_test (first == last) where
  by_test : (b : Bool) → Lacks 10 (cond b [] (45 ∷ decimal last))
  by_test true = tt
  by_test false = (λ h. omega arith, Lacks-decimal 10 last small (inl (omega arith)))

pub Lacks-range_text : (r : NameRange) → is_range r ≡ true → Lacks 10 (range_text r)
Lacks-range_text r is = (
  sign_not_LF r.told,
  Lacks-append 10 (name_text (first_name r)) (last_text r.first r.last)
      (Lacks-name_text 10 (first_name r) (first_in_range r is) (λ h. omega arith) (inl (omega arith))) (Lacks-last_text r.first r.last (numbers_fit r is).last),
)
