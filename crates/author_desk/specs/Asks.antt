-- The numbers of calls.
use Rattle.std.specs.Prelude.{ℕ, ◌+◌, ◌<◌, ◌≤◌}

-- so many numbers, of which this is the first
abbrev pub AllFrom : (ℕ → Type 0) → ℕ → ℕ → Type 0
AllFrom may first count = (number : ℕ) → first ≤ number → number < first + count → may number
