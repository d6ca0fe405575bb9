-- The generated session of twelve loads, worked out from the rule's words.
use Rattle.std.proofs.Common.{◌≡◌, ◌<◌, ◌^◌, ℕ, List, [], ◌∷◌, codes, decimal, refl, sym, inl, inr, lit<, lit≤}
use Rattle.std.specs.Str.Parse.{AllDigits, digits_value}
use Rattle.text_parts.specs.Number.{IsNumberText}
use Rattle.text_parts.proofs.Numbers.{decimal_from_IsNumberText}
use Rattle.session_gen.specs.Generated.{generated_lines}
use Rattle.session_gen.proofs.Numerals.{written, d0, d1, d4, d5, d6}

d2 : decimal 2 ≡ codes "2"
d2 = written (codes "2") (inr (lit≤ tt, lit≤ tt, tt)) (lit< tt)

d3 : decimal 3 ≡ codes "3"
d3 = written (codes "3") (inr (lit≤ tt, lit≤ tt, tt)) (lit< tt)

d7 : decimal 7 ≡ codes "7"
d7 = written (codes "7") (inr (lit≤ tt, lit≤ tt, tt)) (lit< tt)

d8 : decimal 8 ≡ codes "8"
d8 = written (codes "8") (inr (lit≤ tt, lit≤ tt, tt)) (lit< tt)

d9 : decimal 9 ≡ codes "9"
d9 = written (codes "9") (inr (lit≤ tt, lit≤ tt, tt)) (lit< tt)

d11 : decimal 11 ≡ codes "11"
d11 = written (codes "11") (inr (lit≤ tt, lit≤ tt, (lit< tt, tt))) (lit< tt)

d12 : decimal 12 ≡ codes "12"
d12 = written (codes "12") (inr (lit≤ tt, lit≤ tt, (lit< tt, tt))) (lit< tt)

d13 : decimal 13 ≡ codes "13"
d13 = written (codes "13") (inr (lit≤ tt, lit≤ tt, (lit< tt, tt))) (lit< tt)

d14 : decimal 14 ≡ codes "14"
d14 = written (codes "14") (inr (lit≤ tt, lit≤ tt, (lit< tt, tt))) (lit< tt)

d15 : decimal 15 ≡ codes "15"
d15 = written (codes "15") (inr (lit≤ tt, lit≤ tt, (lit< tt, tt))) (lit< tt)

d16 : decimal 16 ≡ codes "16"
d16 = written (codes "16") (inr (lit≤ tt, lit≤ tt, (lit< tt, tt))) (lit< tt)

d17 : decimal 17 ≡ codes "17"
d17 = written (codes "17") (inr (lit≤ tt, lit≤ tt, (lit< tt, tt))) (lit< tt)

d18 : decimal 18 ≡ codes "18"
d18 = written (codes "18") (inr (lit≤ tt, lit≤ tt, (lit< tt, tt))) (lit< tt)

d19 : decimal 19 ≡ codes "19"
d19 = written (codes "19") (inr (lit≤ tt, lit≤ tt, (lit< tt, tt))) (lit< tt)

d21 : decimal 21 ≡ codes "21"
d21 = written (codes "21") (inr (lit≤ tt, lit≤ tt, (lit< tt, tt))) (lit< tt)

d22 : decimal 22 ≡ codes "22"
d22 = written (codes "22") (inr (lit≤ tt, lit≤ tt, (lit< tt, tt))) (lit< tt)

d23 : decimal 23 ≡ codes "23"
d23 = written (codes "23") (inr (lit≤ tt, lit≤ tt, (lit< tt, tt))) (lit< tt)

d31 : decimal 31 ≡ codes "31"
d31 = written (codes "31") (inr (lit≤ tt, lit≤ tt, (lit< tt, tt))) (lit< tt)

d32 : decimal 32 ≡ codes "32"
d32 = written (codes "32") (inr (lit≤ tt, lit≤ tt, (lit< tt, tt))) (lit< tt)

twelve_loads :
    generated_lines 12 ≡
    codes "session"
    ∷ codes "replica a"
    ∷ codes "replica b"
    ∷ codes "replica c"
    ∷ codes "author 4 a"
    ∷ codes "author 5 b"
    ∷ codes "author 6 c"
    ∷ codes "load a +1.11 1.1 plus left 1.2 ap"
    ∷ codes "load a +1.12 1.1 plus right 1.3 num:0"
    ∷ codes "load b +1.13 1.2 ap fun 1.4 lam"
    ∷ codes "load b +1.14 1.4 lam param 1.5 pvar:x"
    ∷ codes "load a +1.15 1.4 lam type 1.6 tnum"
    ∷ codes "load b +1.16 1.4 lam body 1.7 var:y"
    ∷ codes "load b +1.17 1.2 ap arg 1.3 num:0"
    ∷ codes "load b +1.18 1.2 ap arg 1.8 true"
    ∷ codes "load c -1.15 1.4 lam type 1.6 tnum"
    ∷ codes "load b +1.19 1.9 fst of 1.9 fst"
    ∷ codes "load a +2.31 2.21 plus left 2.22 ap"
    ∷ codes "load b +2.32 2.21 plus right 2.23 num:1"
    ∷ codes "block"
    ∷ codes "4 construct 0.0 main num:1"
    ∷ codes "5 construct 0.0 main num:1"
    ∷ codes "6 construct 0.0 main num:1"
    ∷ codes "end"
    ∷ codes "block"
    ∷ codes "send a b skip 0 take 1000000 forward once cut 4096"
    ∷ codes "send b c skip 0 take 1000000 forward once cut 4096"
    ∷ codes "send c a skip 0 take 1000000 forward once cut 4096"
    ∷ codes "end"
    ∷ codes "block"
    ∷ codes "send a b skip 0 take 1000000 reverse twice cut 4096"
    ∷ codes "send b c skip 0 take 1000000 reverse twice cut 4096"
    ∷ codes "send c a skip 0 take 1000000 reverse twice cut 4096"
    ∷ codes "end"
    ∷ []
twelve_loads = simp (d0, d1, d2, d3, d4, d5, d6, d7, d8, d9, d11, d12, d13, d14, d15, d16, d17, d18, d19, d21, d22, d23, d31, d32) refl
