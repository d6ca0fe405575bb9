-- The text of numbers.
use Rattle.std.proofs.Common.{◌≡◌, ◌≢◌, ℕ, zero, suc, ◌+◌, ◌*◌, ◌<◌, ◌≤◌, ◌^◌, ◌⊎◌, List, [], ◌∷◌, length, get_or, decimal, refl, ap, sym, inl, inr, subst, arith}
use Rattle.std.proofs.lemmas.Bool.{cases_lt}
use Rattle.std.proofs.lemmas.Str.{digit_value_digit}
use Rattle.std.specs.Char.{digit_value}
use Rattle.std.specs.Str.Parse.{AllDigits, digits_value, digits_value_after}
use Rattle.std.proofs.lemmas.Str.Parse.{IsNumeralModel, numerals_by_value, tells_digits, digit_from_value}
use Rattle.std.proofs.lemmas.Fmt.{decimal_is_IsNumeral, decimal_nonempty, first_decimal, decimal_digit, length-decimal-le, decimal-digits_value}
use Rattle.text_parts.specs.Number.{IsNumberText}
use Rattle.text_parts.specs.Separated.{Lacks}

-- std's words for digits and their value
pub numerals : IsNumeralModel (AllDigits 10) (digits_value 10)
numerals = numerals_by_value (AllDigits 10) tells_digits

-- digits lack what is no digit
pub Lacks-digits : (c : ℕ) (ds : List ℕ) → AllDigits 10 ds → (c < 48) ⊎ (57 < c) → Lacks c ds
Lacks-digits c [] digits other = tt
Lacks-digits c (d ∷ ds) digits other =
    let range = digit_from_value d digits.0 in
    (λ same. elim other [ inl below ↦ omega arith | inr above ↦ omega arith ], Lacks-digits c ds digits.1 other)

-- a number's text lacks what is no digit
pub Lacks-decimal : (c n : ℕ) → n < 2 ^ 64 → (c < 48) ⊎ (57 < c) → Lacks c (decimal n)
Lacks-decimal c n small other = Lacks-digits c (decimal n) (decimal_is_IsNumeral n small).0.1 other

-- it has at most 20 bytes
pub length-decimal : (n : ℕ) → n < 2 ^ 64 → length (decimal n) ≤ 20
length-decimal n small = length-decimal-le 20 n (omega arith) (omega arith) small

-- it begins with a zero only where it is `0`
pub decimal-zero_first : (n : ℕ) → n < 2 ^ 64 → get_or (decimal n) 0 0 ≡ 48 → length (decimal n) ≡ 1
decimal-zero_first zero small zero_first = ap length (decimal_digit 0 (omega arith))
decimal-zero_first (suc n) small zero_first = absurd (omega (arith, first_decimal (suc n) (omega arith) small))

-- reading on never lowers the value
pub digits_value_after-ge : (n : ℕ) (ds : List ℕ) → n ≤ digits_value_after 10 n ds
digits_value_after-ge n [] = omega arith
digits_value_after-ge n (d ∷ ds) = omega (arith, digits_value_after-ge (n * 10 + digit_value d) ds)

-- digits with no spare zero in front are the text of their value
pub decimal_from_digits : (ds : List ℕ) → AllDigits 10 ds → 0 < length ds → (get_or ds 0 0 ≡ 48 → length ds ≡ 1) → digits_value 10 ds < 2 ^ 64 → ds ≡ decimal (digits_value 10 ds)
decimal_from_digits ds digits some plain small = sym (decimal-digits_value numerals ds digits some plain small)

-- a number's text is `0`, or a digit from 1 to 9 followed by digits
spelled_from_digits : (ds : List ℕ) → AllDigits 10 ds → 0 < length ds → (get_or ds 0 0 ≡ 48 → length ds ≡ 1) → IsNumberText ds
spelled_from_digits [] digits some plain = absurd (omega arith)
spelled_from_digits (d ∷ []) digits some plain =
    let range = digit_from_value d digits.0 in
    elim (cases_lt d 49) [ inl low ↦ inl (omega arith, refl) | inr high ↦ inr (high, range.1, digits.1) ]
spelled_from_digits (d ∷ e ∷ ds) digits some plain =
    let range = digit_from_value d digits.0 in
    let not_zero : d ≢ 48 = λ h. omega (arith, plain h) in
    inr (omega arith, range.1, digits.1)

pub IsNumberText-decimal : (n : ℕ) → n < 2 ^ 64 → IsNumberText (decimal n)
IsNumberText-decimal n small = spelled_from_digits (decimal n) (decimal_is_IsNumeral n small).0.1 (decimal_nonempty n small) (decimal-zero_first n small)

-- and each such text is that of its value
pub decimal_from_IsNumberText : (text : List ℕ) → IsNumberText text → digits_value 10 text < 2 ^ 64 → text ≡ decimal (digits_value 10 text)
decimal_from_IsNumberText [] spelled small = absurd spelled
decimal_from_IsNumberText (d ∷ ds) spelled small = elim spelled [
  | inl zero_alone ↦
      let first : digit_value d < 10 = subst (λ x. digit_value x < 10) (sym zero_alone.0) (omega arith) in
      let rest : AllDigits 10 ds = subst (AllDigits 10) (sym zero_alone.1) tt in
      decimal_from_digits (d ∷ ds) (first, rest) (omega arith) (λ _. ap (λ xs. length (d ∷ xs)) zero_alone.1) small
  | inr longer ↦
      let first : digit_value d < 10 = omega (arith, digit_value_digit d (omega arith, longer.1)) in
      decimal_from_digits (d ∷ ds) (first, longer.2) (omega arith) (λ h. absurd (omega arith)) small
]
