-- The spelling of numbers.
use Rattle.std.specs.Prelude.{◌≡◌, ℕ, ◌≤◌, ◌⊎◌, Bool, false, ◌&&◌, nat_le, List, [], ◌∷◌}
use Rattle.std.specs.Str.Parse.{AllDigits}

-- `0`, or a digit from 1 to 9 followed by digits
abbrev pub IsNumberText : List ℕ → Type 0
IsNumberText [] = ⊥
IsNumberText (first ∷ rest) = ((first ≡ 48) × (rest ≡ [])) ⊎ ((49 ≤ first) × (first ≤ 57) × AllDigits 10 rest)

-- the first byte is a digit
abbrev pub begins_with_digit : List ℕ → Bool
begins_with_digit [] = false
begins_with_digit (first ∷ rest) = nat_le 48 first && nat_le first 57
