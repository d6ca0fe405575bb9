-- Names and the variables that they stand for, as they are kept.
use Rattle.std.specs.Prelude.{◌≡◌, ℕ, List, [], ◌∷◌, ◌++◌, Option, None, Some}
use Rattle.std.specs.Map.{lookup}
use Rattle.std.specs.Option.{option_flatten}
use Rattle.grove_sorts.specs.declared.ident.Ident.{Ident}
use Rattle.grove_sorts.specs.contracts.ident.IdentPartialEq.TheImpl as ident_eq
use Rattle.type_infer.specs.declared.scope.Bound.{Bound}
use Rattle.type_infer.specs.TreeEquations.{Names, variable_of}

-- the variable that a map has for a name
abbrev pub kept_for : List (Ident × Option ℕ) → Ident → Option ℕ
kept_for entries name = option_flatten (lookup (ident_eq.eq-value.it name) entries)

-- the names that were bound, the innermost last, each with its variable
abbrev pub names_of : List Bound → Names
names_of [] = []
names_of (b ∷ bs) = names_of bs ++ (b.name, b.variable) ∷ []

-- each hides what its name stood for before, outermost last here
abbrev pub Hide : Names → List (Option ℕ) → Type 0
Hide [] [] = Unit {0}
Hide [] (h ∷ hs) = ⊥
Hide (b ∷ bs) [] = ⊥
Hide (b ∷ bs) (h ∷ hs) = (h ≡ variable_of bs b.0) × Hide bs hs

abbrev pub hidden_of : List Bound → List (Option ℕ)
hidden_of [] = []
hidden_of (b ∷ bs) = hidden_of bs ++ b.hidden ∷ []

-- the map has for each name the variable that it stands for, and each binding what it hides
pub record IsScope (bound : List Bound) (entries : List (Ident × Option ℕ)) : Type 0 where
  pub kept : (name : Ident) → kept_for entries name ≡ variable_of (names_of bound) name
  pub hides : Hide (names_of bound) (hidden_of bound)
