-- Numbers, each under a name.
use Rattle.std.specs.Prelude.{◌≡◌, ◌≢◌, ℕ, ◌<◌, ◌≤◌, Bool, List, [], ◌∷◌, ◌++◌, Option, None, Some, unwrap_or, ⊤, if◌then◌else◌}
use Rattle.std.specs.Ordering.{is_eq}
use Rattle.std.specs.Map.{lookup}
use Rattle.std.specs.BTreeMap.{is_at}
use Rattle.grove_names.specs.declared.name.Name.{Name}
use Rattle.grove_names.specs.Name.{name_cmp}

-- names, the greatest first, each with its numbers
abbrev pub Lists : Type 0
Lists = List (Name × List ℕ)

-- the numbers of a name, in the order in which they were added
abbrev pub numbers_of : Lists → Name → List ℕ
numbers_of lists name = unwrap_or (lookup (is_at (name_cmp name)) lists) []

-- the numbers of the least name, and then those of each greater one
abbrev pub all_numbers : Lists → List ℕ
all_numbers [] = []
all_numbers (entry ∷ lists) = all_numbers lists ++ entry.1

abbrev pub is_same_name : Name → Name → Bool
is_same_name a b = is_eq (name_cmp a b)

-- the numbers by name with one more behind those of a name
abbrev pub with_number : Name → ℕ → (Name → List ℕ) → Name → List ℕ
with_number name number numbers n = if is_same_name name n then numbers n ++ number ∷ [] else numbers n

-- ---- the counters of an author

abbrev pub name_by : ℕ → ℕ → Name
name_by author counter = record { author = author; counter = counter }

-- the author's name with this counter has numbers
abbrev pub HasNumbers : Lists → ℕ → ℕ → Type 0
HasNumbers lists author counter = numbers_of lists (name_by author counter) ≢ []

-- the counter is less than a bound, where there is one
abbrev pub IsBefore : Option ℕ → ℕ → Type 0
IsBefore None counter = ⊤
IsBefore (Some bound) counter = counter < bound

-- of the author's counters with numbers that are less than a bound, this is the greatest
pub record IsLastBefore (lists : Lists) (author : ℕ) (bound : Option ℕ) (counter : ℕ) : Type 0 where
  pub before : IsBefore bound counter
  pub numbers : HasNumbers lists author counter
  pub no_greater : (c : ℕ) → IsBefore bound c → HasNumbers lists author c → c ≤ counter

-- none of the author's counters that are less than a bound has numbers
abbrev pub HasNoneBefore : Lists → ℕ → Option ℕ → Type 0
HasNoneBefore lists author bound = (counter : ℕ) → IsBefore bound counter → numbers_of lists (name_by author counter) ≡ []
