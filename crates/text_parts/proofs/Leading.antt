-- The digits that a text begins with.
use Rattle.std.proofs.Common.{◌≡◌, ℕ, zero, suc, ◌+◌, ◌*◌, ◌<◌, ◌≤◌, ◌^◌, List, [], ◌∷◌, ◌++◌, Bool, true, false, length, get_or, take, drop, decimal, ◌-◌, refl, ap, sym, ◌∙◌, subst, arith, length-take}
use Rattle.std.specs.Int.{IsInRange}
use Rattle.std.specs.Char.{digit_value}
use Rattle.std.specs.Str.Parse.{AllDigits, digits_value, digits_value_after}
use Rattle.std.proofs.lemmas.Bool.{false≢true}
use Rattle.std.proofs.lemmas.Bool.Decides.{nat_tests}
use Rattle.std.proofs.lemmas.Int.Digits.{digits_value_more}
use Rattle.std.proofs.lemmas.List.{take-append-drop, take_rest, get_or-take}
use Rattle.std.proofs.lemmas.Str.{digit_value_digit}
use Rattle.std.proofs.lemmas.Str.Parse.{digit_from_value, digits_value_short}
use Rattle.std.proofs.lemmas.Fmt.{decimal_is_IsNumeral, decimal_nonempty}
use Rattle.text_parts.specs.Number.{begins_with_digit}
use Rattle.text_parts.proofs.Numbers.{numerals, length-decimal, digits_value_after-ge, decimal-zero_first, decimal_from_digits}

-- a digit begins a text with a digit
begins_if_digit : (d : ℕ) (ds : List ℕ) → digit_value d < 10 → begins_with_digit (d ∷ ds) ≡ true
begins_if_digit d ds digit = let range = digit_from_value d digit in grind (arith, nat_tests)

not_both : (d : ℕ) (ds x : List ℕ) → digit_value d < 10 → begins_with_digit x ≡ false → x ≡ d ∷ ds → ⊥
not_both d ds x digit none same = false≢true (sym none ∙ ap begins_with_digit same ∙ begins_if_digit d ds digit)

-- one digit more
AllDigits-next : (bytes : List ℕ) (i : ℕ) → i < length bytes → AllDigits 10 (take i bytes) → IsInRange 48 57 (get_or bytes i 0) → AllDigits 10 (take (suc i) bytes)
AllDigits-next [] i within digits digit = absurd (omega arith)
AllDigits-next (b ∷ bytes) zero within digits digit = (omega (arith, digit_value_digit b digit), tt)
AllDigits-next (b ∷ bytes) (suc i) within digits digit = (digits.0, AllDigits-next bytes i (omega arith) digits.1 digit)

pub AllDigits-more : (bytes : List ℕ) (i : ℕ) → i < length bytes → AllDigits 10 (take i bytes) → IsInRange 48 57 (get_or bytes i 0) → AllDigits 10 (take (i + 1) bytes)
AllDigits-more bytes i within digits digit =
    let next : suc i ≡ i + 1 = omega arith in
    subst (λ k. AllDigits 10 (take k bytes)) next (AllDigits-next bytes i within digits digit)

length-front : (bytes : List ℕ) (i : ℕ) → i ≤ length bytes → length (take i bytes) ≡ i
length-front bytes i within = omega (arith, length-take i bytes)

-- few digits write a number below a power of ten
pub digits_value-below : (bytes : List ℕ) (i k : ℕ) → i ≤ k → AllDigits 10 (take i bytes) → digits_value 10 (take i bytes) < 10 ^ k
digits_value-below bytes i k few digits = digits_value_short numerals (take i bytes) k digits (omega (arith, length-take i bytes))

-- where no digit follows them, the digits that two parts of one text begin with are the same
pub same_digits : (a b x y : List ℕ) → AllDigits 10 a → AllDigits 10 b → begins_with_digit x ≡ false → begins_with_digit y ≡ false → a ++ x ≡ b ++ y → (a ≡ b) × (x ≡ y)
same_digits [] [] x y digits also ended stopped same = (refl, same)
same_digits [] (d ∷ b) x y digits also ended stopped same = absurd (not_both d (b ++ y) x also.0 ended same)
same_digits (c ∷ a) [] x y digits also ended stopped same = absurd (not_both c (a ++ x) y digits.0 stopped (sym same))
same_digits (c ∷ a) (d ∷ b) x y digits also ended stopped same =
    let rest = same_digits a b x y digits.1 also.1 ended stopped cc in
    let first : c ≡ d = cc in
    let front : a ≡ b = rest.0 in
    (cc, rest.1)

-- no front of the digits has a greater value
digits_value_after-front : (n : ℕ) (a ds x rest : List ℕ) → AllDigits 10 a → AllDigits 10 ds → begins_with_digit rest ≡ false → a ++ x ≡ ds ++ rest → digits_value_after 10 n a ≤ digits_value_after 10 n ds
digits_value_after-front n [] ds x rest digits also ended same = digits_value_after-ge n ds
digits_value_after-front n (c ∷ a) [] x rest digits also ended same = absurd (not_both c (a ++ x) rest digits.0 ended (sym same))
digits_value_after-front n (c ∷ a) (d ∷ ds) x rest digits also ended same =
    let first : c ≡ d = cc in
    subst (λ e. digits_value_after 10 (n * 10 + digit_value c) a ≤ digits_value_after 10 (n * 10 + digit_value e) ds) first
    (digits_value_after-front (n * 10 + digit_value c) a ds x rest digits.1 also.1 ended cc)

-- nor more digits
length-digits : (a ds x rest : List ℕ) → AllDigits 10 a → begins_with_digit rest ≡ false → a ++ x ≡ ds ++ rest → length a ≤ length ds
length-digits [] ds x rest digits ended same = omega arith
length-digits (c ∷ a) [] x rest digits ended same = absurd (not_both c (a ++ x) rest digits.0 ended (sym same))
length-digits (c ∷ a) (d ∷ ds) x rest digits ended same = omega (arith, length-digits a ds x rest digits.1 ended cc)

pub no_number_so_long : (bytes : List ℕ) (i n : ℕ) (rest : List ℕ) → i ≤ length bytes → 20 < i → AllDigits 10 (take i bytes) → n < 2 ^ 64 → begins_with_digit rest ≡ false → bytes ≡ decimal n ++ rest → ⊥
no_number_so_long bytes i n rest within long digits small ended same =
    omega (
      arith,
      length-front bytes i within,
      length-decimal n small,
      length-digits (take i bytes) (decimal n) (drop i bytes) rest digits ended (take-append-drop i bytes ∙ same),
    )

-- so the value of the digits so far is not above the number that they begin
pub leading_digits-le : (bytes : List ℕ) (i n : ℕ) (rest : List ℕ) → AllDigits 10 (take i bytes) → n < 2 ^ 64 → begins_with_digit rest ≡ false → bytes ≡ decimal n ++ rest → digits_value 10 (take i bytes) ≤ n
leading_digits-le bytes i n rest digits small ended same =
    let numeral = decimal_is_IsNumeral n small in
    let below = digits_value_after-front 0 (take i bytes) (decimal n) (drop i bytes) rest digits numeral.0.1 ended (take-append-drop i bytes ∙ same) in
    omega (arith, below, numeral.1)

-- one digit more gives the next value
pub digits_value-next : (bytes : List ℕ) (i : ℕ) → i < length bytes → IsInRange 48 57 (get_or bytes i 0) → digits_value 10 (take (i + 1) bytes) ≡ digits_value 10 (take i bytes) * 10 + (get_or bytes i 0 - 48)
digits_value-next bytes i within digit = omega (arith, digits_value_more 10 bytes i within, digit_value_digit (get_or bytes i 0) digit)

-- where the next value is too great, no number stands in front
pub no_number_so_great : (bytes : List ℕ) (i n : ℕ) (rest : List ℕ) → i < length bytes → AllDigits 10 (take i bytes) → IsInRange 48 57 (get_or bytes i 0) → 2 ^ 64 ≤ digits_value 10 (take i bytes) * 10 + (get_or bytes i 0 - 48) → n < 2 ^ 64 → begins_with_digit rest ≡ false → bytes ≡ decimal n ++ rest → ⊥
no_number_so_great bytes i n rest within digits digit great small ended same =
    omega (
      arith,
      digits_value-next bytes i within digit,
      leading_digits-le bytes (i + 1) n rest (AllDigits-more bytes i within digits digit) small ended same,
    )

-- all of the digits that a text begins with are those of the number
pub leading_digits : (bytes : List ℕ) (i n : ℕ) (rest : List ℕ) → AllDigits 10 (take i bytes) → begins_with_digit (drop i bytes) ≡ false → n < 2 ^ 64 → begins_with_digit rest ≡ false → bytes ≡ decimal n ++ rest → (take i bytes ≡ decimal n) × (drop i bytes ≡ rest)
leading_digits bytes i n rest digits all small ended same =
    same_digits (take i bytes) (decimal n) (drop i bytes) rest digits (decimal_is_IsNumeral n small).0.1 all ended (take-append-drop i bytes ∙ same)

-- a text that goes on with a byte that is no digit
pub no_digit_at : (bytes : List ℕ) (i : ℕ) → (IsInRange 48 57 (get_or bytes i 0) → ⊥) → begins_with_digit (drop i bytes) ≡ false
no_digit_at [] zero other = refl
no_digit_at [] (suc i) other = refl
no_digit_at (b ∷ bytes) zero other = by_test (begins_with_digit (b ∷ bytes)) refl where
  by_test : (t : Bool) → begins_with_digit (b ∷ bytes) ≡ t → begins_with_digit (b ∷ bytes) ≡ false
  by_test true is = absurd (other (grind (arith, nat_tests)))
  by_test false is = is
no_digit_at (b ∷ bytes) (suc i) other = no_digit_at bytes i other

-- where no digit stands in front, no number does
pub no_number_in_front : (bytes : List ℕ) (n : ℕ) (rest : List ℕ) → (IsInRange 48 57 (get_or bytes 0 0) → ⊥) → n < 2 ^ 64 → begins_with_digit rest ≡ false → bytes ≡ decimal n ++ rest → ⊥
no_number_in_front bytes n rest other small ended same =
    let parts = leading_digits bytes 0 n rest tt (no_digit_at bytes 0 other) small ended same in
    omega (arith, ap length parts.0, decimal_nonempty n small)

-- nor does one behind a spare zero
pub no_number_behind_zero : (bytes : List ℕ) (i n : ℕ) → i ≤ length bytes → 1 < i → get_or bytes 0 0 ≡ 48 → take i bytes ≡ decimal n → n < 2 ^ 64 → ⊥
no_number_behind_zero bytes i n within more zero_first same small =
    omega (
      arith,
      length-front bytes i within,
      ap length same,
      decimal-zero_first n small (ap (λ ds. get_or ds 0 0) (sym same) ∙ get_or-take i bytes 0 0 (omega arith) ∙ zero_first),
    )

-- digits with no spare zero in front are the text of the value that is read of them
pub leading_decimal : (bytes : List ℕ) (i n : ℕ) → i ≤ length bytes → 0 < i → (get_or bytes 0 0 ≡ 48 → i ≤ 1) → AllDigits 10 (take i bytes) → n ≡ digits_value 10 (take i bytes) → n < 2 ^ 64 → bytes ≡ decimal n ++ take (length bytes - i) (drop i bytes)
leading_decimal bytes i n within some plain digits value small =
    let size = length-front bytes i within in
    let alone : get_or (take i bytes) 0 0 ≡ 48 → length (take i bytes) ≡ 1 = λ zero_first. omega (arith, size, plain (sym (get_or-take i bytes 0 0 some) ∙ zero_first)) in
    let front : take i bytes ≡ decimal n = decimal_from_digits (take i bytes) digits (omega arith) alone (omega arith) ∙ ap decimal (sym value) in
    sym (take-append-drop i bytes) ∙ ap (λ xs. xs ++ drop i bytes) front ∙ ap (λ ys. decimal n ++ ys) (sym (take_rest bytes i))
