-- Items on a stack that have their turns one after the other, the last one first.
use Rattle.std.specs.Prelude.{List, [], ◌∷◌}

-- what the items make of v
abbrev pub outcome : {A V : Type 0} → (A → V → V) → List A → V → V
outcome turn [] v = v
outcome turn (a ∷ rest) v = turn a (outcome turn rest v)

-- each item fits what those after it make of v
abbrev pub EachFits : {A V : Type 0} → (A → V → V) → (A → V → Type 0) → List A → V → Type 0
EachFits turn Fits [] v = Unit
EachFits turn Fits (a ∷ rest) v = Fits a (outcome turn rest v) × EachFits turn Fits rest v
