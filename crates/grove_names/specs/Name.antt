-- What names are: their order and their text.
-- The promise of the commands rests on these definitions.
use Rattle.std.specs.Prelude.{ℕ, ◌<◌, ◌^◌, List, ◌∷◌, ◌++◌, decimal}
use Rattle.std.specs.declared.cmp.Ordering.{Ordering}
use Rattle.std.specs.Ordering.{nat_cmp, ordering_then}
use Rattle.grove_names.specs.declared.name.Name.{Name}

-- the author's number and the counter lie in their ranges, as those of every name of the program do
abbrev pub InRange : Name → Type 0
InRange name = (name.author < 2 ^ 32) × (name.counter < 2 ^ 64)

-- the author's number, a dot and the counter
abbrev pub name_text : Name → List ℕ
name_text name = decimal name.author ++ 46 ∷ decimal name.counter

-- names are ordered by author, then counter
abbrev pub name_cmp : Name → Name → Ordering
name_cmp a b = ordering_then (nat_cmp a.author b.author) (nat_cmp a.counter b.counter)
