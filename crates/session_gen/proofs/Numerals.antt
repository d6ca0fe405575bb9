-- The texts of some numbers.
use Rattle.std.proofs.Common.{◌≡◌, ◌<◌, ◌^◌, ℕ, List, codes, decimal, refl, sym, inl, inr, lit<, lit≤}
use Rattle.std.specs.Str.Parse.{digits_value}
use Rattle.text_parts.specs.Number.{IsNumberText}
use Rattle.text_parts.proofs.Numbers.{decimal_from_IsNumberText}

-- digits are the text of the number that they write
pub written : (text : List ℕ) → IsNumberText text → digits_value 10 text < 2 ^ 64 → decimal (digits_value 10 text) ≡ text
written text is small = sym (decimal_from_IsNumberText text is small)

pub d0 : decimal 0 ≡ codes "0"
d0 = written (codes "0") (inl (refl, refl)) (lit< tt)

pub d1 : decimal 1 ≡ codes "1"
d1 = written (codes "1") (inr (lit≤ tt, lit≤ tt, tt)) (lit< tt)

pub d4 : decimal 4 ≡ codes "4"
d4 = written (codes "4") (inr (lit≤ tt, lit≤ tt, tt)) (lit< tt)

pub d5 : decimal 5 ≡ codes "5"
d5 = written (codes "5") (inr (lit≤ tt, lit≤ tt, tt)) (lit< tt)

pub d6 : decimal 6 ≡ codes "6"
d6 = written (codes "6") (inr (lit≤ tt, lit≤ tt, tt)) (lit< tt)

pub d1000000 : decimal 1000000 ≡ codes "1000000"
d1000000 = written (codes "1000000") (inr (lit≤ tt, lit≤ tt, (lit< tt, (lit< tt, (lit< tt, (lit< tt, (lit< tt, (lit< tt, tt)))))))) (lit< tt)

pub d4096 : decimal 4096 ≡ codes "4096"
d4096 = written (codes "4096") (inr (lit≤ tt, lit≤ tt, (lit< tt, (lit< tt, (lit< tt, tt))))) (lit< tt)
