-- What a call of a source or of a sink does to the bytes, where they are told, and to the count of faults.
-- The promise of the commands rests on these definitions.
use Rattle.std.specs.Prelude.{◌≡◌, ◌<◌, ◌⊎◌, ◌+◌, ◌-◌, ◌^◌, ℕ, min, List, [], ◌++◌, take, Option, None, Some, Result, Ok, Err}
use Rattle.std.specs.Option.{option_map}

-- the count has risen, or stands at the last value of its type, where it stays
abbrev pub HasRisen : ℕ → ℕ → Type 0
HasRisen before after = (before < after) ⊎ (after ≡ 2 ^ 64 - 1)

-- one more, as a counter of 64 bits counts it: at its last value it stays
abbrev pub counted_once_more : ℕ → ℕ
counted_once_more count = min (count + 1) (2 ^ 64 - 1)

-- what was left before is these bytes, and then what is left after
abbrev pub Gave : Option (List ℕ) → List ℕ → Option (List ℕ) → Type 0
Gave before bytes after = before ≡ option_map (λ rest. bytes ++ rest) after

-- what is taken after is what was taken before, and then these bytes
abbrev pub Took : Option (List ℕ) → List ℕ → Option (List ℕ) → Type 0
Took before bytes after = after ≡ option_map (λ taken. taken ++ bytes) before

-- no byte is left, where the bytes left are told
abbrev pub IsAtEnd : Option (List ℕ) → Type 0
IsAtEnd None = Unit {0}
IsAtEnd (Some bytes) = bytes ≡ []

-- the bytes that a call moved: as many as it answered, none where it failed
abbrev pub moved : {E : Type 0} → Result ℕ E → List ℕ → List ℕ
moved (Ok count) bytes = take count bytes
moved (Err e) bytes = []
