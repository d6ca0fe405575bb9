-- A number that was read from its text.
use Rattle.std.proofs.Common.{◌≡◌, ℕ, ◌<◌, ◌^◌, List, decimal, sym, ◌∙◌}
use Rattle.std.proofs.lemmas.Fmt.{decimal_injective}

-- it is the only one with that text
pub one_number : (number : List ℕ) (read other : ℕ) → read < 2 ^ 64 → other < 2 ^ 64 → number ≡ decimal read → number ≡ decimal other → read ≡ other
one_number number read other small little is also = decimal_injective read other small little (sym is ∙ also)
