-- Ranges of names, and what a list of them tells.
use Rattle.std.specs.Prelude.{ℕ, ◌+◌, ◌^◌, Bool, true, ◌&&◌, ◌||◌, ◌==◌, nat_le, nat_lt, List, [], ◌∷◌}
use Rattle.std.specs.List.{list_any}
use Rattle.grove_names.specs.declared.name.Name.{Name}
use Rattle.edit_ranges.specs.declared.told.Told.{Told}
use Rattle.edit_ranges.specs.declared.told.Told.TheVariants.{Named, Deleted}
use Rattle.edit_ranges.specs.declared.name_range.NameRange.{NameRange}

abbrev pub told_number : Told → ℕ
told_number Named = 0
told_number Deleted = 1

-- the range tells this of the name
abbrev pub tells : NameRange → Told → Name → Bool
tells r told name = (told_number r.told == told_number told) && (r.author == name.author) && nat_le r.first name.counter && nat_le name.counter r.last

-- one of the ranges does
abbrev pub tell : List NameRange → Told → Name → Bool
tell ranges told name = list_any (λ r. tells r told name) ranges

-- the order of what is told, then the author, then the counter
abbrev pub comes_before : ℕ → ℕ → ℕ → ℕ → ℕ → ℕ → Bool
comes_before told author counter told' author' counter' =
    nat_lt told told' || ((told == told') && (nat_lt author author' || ((author == author') && nat_lt counter counter')))

-- all that the range tells comes before this of the name
abbrev pub ends_before : NameRange → Told → Name → Bool
ends_before r told name = comes_before (told_number r.told) r.author r.last (told_number told) name.author name.counter

-- the second range comes after the first, and not right behind it: one range could not tell both
abbrev pub is_apart : NameRange → NameRange → Bool
is_apart r s = comes_before (told_number r.told) r.author (r.last + 1) (told_number s.told) s.author s.first

-- the range has a name, and its numbers fit those of names
abbrev pub is_range : NameRange → Bool
is_range r = nat_le r.first r.last && nat_lt r.author (2 ^ 32) && nat_lt r.last (2 ^ 64)

abbrev pub begins_apart : NameRange → List NameRange → Bool
begins_apart r [] = true
begins_apart r (s ∷ ss) = is_apart r s

-- ranges in order, each as long as it can be
abbrev pub are_ranges : List NameRange → Bool
are_ranges [] = true
are_ranges (r ∷ rs) = is_range r && begins_apart r rs && are_ranges rs
