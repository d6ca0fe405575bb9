-- The place of an action with its vertex, and the faults that tell that there is none.
use Rattle.std.specs.Prelude.{◌≡◌, ℕ, List, [], ◌∷◌, Some}
use Rattle.grove_names.specs.declared.name.Name.{Name}
use Rattle.grove_sorts.specs.declared.sort.Sort.{Sort}
use Rattle.grove_edits.specs.declared.edge.Edge.{Edge}
use Rattle.grove_edits.specs.Graph.{Graph}
use Rattle.grove_edits.specs.declared.action.Place.{Place}
use Rattle.grove_edits.specs.declared.action.Action.{Action}
use Rattle.grove_edits.specs.declared.act_fault.ActFault.{ActFault}
use Rattle.user_actions.specs.declared.spot.Spot.{Spot}
use Rattle.user_actions.specs.Lists.{GraphLists, AreListsOf}
use Rattle.user_actions.specs.NamedVertices.{IsOneNamed}
use Rattle.user_actions.specs.Place.{sort_at_place}
use Rattle.user_actions.specs.Faults.{first_fault}
use Rattle.user_actions.specs.Actions.{place_of, vertex_names, found_sort}

-- the spot is the place, its one vertex, and the sort that is wanted there
pub record IsSpot (g : Graph) (place : Place) (spot : Spot) : Type 0 where
  pub is_place : spot.place ≡ place
  pub one : IsOneNamed g place.name spot.vertex
  pub wanted : sort_at_place spot.vertex place ≡ Some spot.sort

-- the fault is the first that applies, whatever is done at the place
abbrev pub IsFirstAt : Graph → Place → ActFault → Type 0
IsFirstAt g place fault =
    (lists : GraphLists) (opening : List Edge) (author : ℕ) (action : Action) → AreListsOf g lists → vertex_names action ≡ place.name ∷ [] → place_of action ≡ Some place
    → first_fault lists opening author action ≡ Some fault

-- whatever with this sort is put at the place
abbrev pub IsFirstOfSort : Graph → Place → Sort → ActFault → Type 0
IsFirstOfSort g place sort fault =
    (lists : GraphLists) (opening : List Edge) (author : ℕ) (action : Action) → AreListsOf g lists → vertex_names action ≡ place.name ∷ [] → place_of action ≡ Some place → found_sort lists action ≡ Some sort
    → first_fault lists opening author action ≡ Some fault

-- whatever is done at the place with the vertex of another name
abbrev pub IsFirstOfTwo : Graph → Place → Name → ActFault → Type 0
IsFirstOfTwo g place name fault =
    (lists : GraphLists) (opening : List Edge) (author : ℕ) (action : Action) → AreListsOf g lists → vertex_names action ≡ place.name ∷ name ∷ [] → place_of action ≡ Some place
    → first_fault lists opening author action ≡ Some fault
