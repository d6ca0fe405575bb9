-- Texts that lack a byte, and where they end before it.
use Rattle.std.proofs.Common.{◌≡◌, ◌≢◌, ℕ, zero, suc, ◌<◌, List, [], ◌∷◌, ◌++◌, get_or, take, refl, arith}
use Rattle.text_parts.specs.Separated.{Lacks}

-- what both parts lack, the whole lacks
pub Lacks-append : (c : ℕ) (a b : List ℕ) → Lacks c a → Lacks c b → Lacks c (a ++ b)
Lacks-append c [] b none rest = rest
Lacks-append c (x ∷ a) b none rest = (none.0, Lacks-append c a b none.1 rest)

-- and what the whole lacks, each part does
pub Lacks-front : (c : ℕ) (a b : List ℕ) → Lacks c (a ++ b) → Lacks c a
Lacks-front c [] b none = tt
Lacks-front c (x ∷ a) b none = (none.0, Lacks-front c a b none.1)

pub Lacks-back : (c : ℕ) (a b : List ℕ) → Lacks c (a ++ b) → Lacks c b
Lacks-back c [] b none = none
Lacks-back c (x ∷ a) b none = Lacks-back c a b none.1

-- a text does not lack the separator in it
pub Lacks-separated : (c : ℕ) (a x : List ℕ) → Lacks c (a ++ c ∷ x) → ⊥
Lacks-separated c [] x none = none.0 refl
Lacks-separated c (y ∷ a) x none = Lacks-separated c a x none.1

-- only one front ends before the first separator
pub first_part : (c : ℕ) (a b x y : List ℕ) → Lacks c a → Lacks c b → a ++ c ∷ x ≡ b ++ c ∷ y → (a ≡ b) × (x ≡ y)
first_part c [] [] x y none also e = (refl, cc)
first_part c [] (d ∷ b) x y none also e = absurd (also.0 (cc))
first_part c (d ∷ a) [] x y none also e = absurd (none.0 (cc))
first_part c (d ∷ a) (f ∷ b) x y none also e =
    let rest = first_part c a b x y none.1 also.1 (cc) in
    let same : d ≡ f = cc in
    let front : a ≡ b = rest.0 in
    (cc, rest.1)

-- a byte that stands at none of the first places is not in the front of that length
pub Lacks-take : (c : ℕ) (bytes : List ℕ) (n : ℕ) → ((k : ℕ) → k < n → get_or bytes k 0 ≢ c) → Lacks c (take n bytes)
Lacks-take c bytes zero below = tt
Lacks-take c [] (suc n) below = tt
Lacks-take c (b ∷ bytes) (suc n) below = (below 0 (omega arith), Lacks-take c bytes n (λ k h. below (suc k) (omega arith)))
