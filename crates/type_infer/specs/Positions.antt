-- What the walk over the nodes of a tree keeps.
use Rattle.std.specs.Prelude.{◌≡◌, ℕ, ◌<◌, List, reverse}
use Rattle.std.specs.List.{slice_index_or, AllByRecursion}
use Rattle.type_infer.specs.declared.rows.Places.{Places}
use Rattle.type_infer.specs.declared.tree.Place.{Place}
use Rattle.type_infer.specs.declared.tree.Place.TheVariants.{Plain, Binding, End}
use Rattle.type_infer.specs.declared.tree.Walk.{Walk as KeptWalk}
use Rattle.type_infer.specs.TreeEquations.{Names}
use Rattle.type_infer.specs.Walking.{Walk, walk}

-- the variables at the positions of the line with this number
abbrev pub row_at : List Places → ℕ → Places
row_at rows i = slice_index_or rows i (record { first = 0; second = 0; third = 0; fourth = 0; fifth = 0 })

abbrev pub walk_at : KeptWalk → Walk
walk_at w = walk (reverse w.places.items) w.scope

abbrev pub IsPlaceWithin : ℕ → Place → Type 0
IsPlaceWithin variables (Binding pattern variable) = variable < variables
IsPlaceWithin variables _ = Unit {0}

abbrev pub ArePlacesWithin : ℕ → List Place → Type 0
ArePlacesWithin variables places = AllByRecursion (IsPlaceWithin variables) places

abbrev pub AreNamesWithin : ℕ → Names → Type 0
AreNamesWithin variables names = AllByRecursion (λ b. b.1 < variables) names

-- the variables of all names, now and to come, are below a number, which is that of the list
pub record AreWithin (variables : ℕ) (w : KeptWalk) : Type 0 where
  pub list : w.list.variables ≡ variables
  pub places : ArePlacesWithin variables w.places.items
  pub names : AreNamesWithin variables w.scope
