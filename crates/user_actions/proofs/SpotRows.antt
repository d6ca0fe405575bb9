-- The faults of an action by the place that was found for it.
use Rattle.std.proofs.Common.{◌≡◌, ℕ, cond, List, [], ◌∷◌, refl, sym, ap, subst, ◌∙◌}
use Rattle.std.specs.Prelude.{Option, None, Some, Result, Ok, Err, IsErrAnd, IfErr, is_none}
use Rattle.grove_names.specs.declared.name.Name.{Name}
use Rattle.grove_sorts.specs.declared.sort.Sort.{Sort}
use Rattle.grove_sorts.specs.declared.sort.Sort.TheVariants.{Top, Exp, Pat, Typ}
use Rattle.grove_edits.specs.declared.vertex.Vertex.{Vertex}
use Rattle.grove_edits.specs.declared.edge.Edge.{Edge}
use Rattle.grove_edits.specs.Graph.{Graph}
use Rattle.grove_edits.specs.declared.action.Place.{Place}
use Rattle.grove_edits.specs.declared.action.Action.{Action}
use Rattle.grove_edits.specs.declared.act_fault.ActFault.{ActFault}
use Rattle.grove_edits.specs.declared.act_fault.ActFault.TheVariants.{NoPosition}
use Rattle.user_actions.specs.declared.spot.Spot.{Spot}
use Rattle.user_actions.specs.Lists.{GraphLists, AreListsOf}
use Rattle.user_actions.specs.NamedVertices.{IsOneNamed, IsVertexFault, IsFirstVertexFault}
use Rattle.user_actions.specs.Place.{sort_at_place}
use Rattle.user_actions.specs.Faults.{first_some, first_fault}
use Rattle.user_actions.specs.Actions.{place_of, vertex_names, found_sort}
use Rattle.user_actions.specs.Checks.{other_sort}
use Rattle.user_actions.specs.Spot.{IsSpot, IsFirstAt, IsFirstOfSort, IsFirstOfTwo}
use Rattle.user_actions.proofs.Telling.{only_from, vertex_fault_tells, two_names_tell, stop, skip}
use Rattle.user_actions.proofs.PlaceRows.{action_rows, rows_after, named_rows, one_vertex_rows, two_vertex_rows, position_fault, sort_fault}

-- an answer that passes a fault on
pub passed : {X : Type 0} (P : ActFault → Type 0) (r : Result X ActFault) (fault : ActFault) → IsErrAnd r (λ e. e ≡ fault) → P fault → IfErr r P
passed P (Ok x) fault gives told = absurd gives
passed P (Err e) fault gives told = subst P (sym gives) told

-- ---- where there is no such place

pub vertex_fault_first : (g : Graph) (place : Place) (fault : ActFault) → IsVertexFault g place.name fault → IsFirstAt g place fault
vertex_fault_first g place fault is lists opening author action of names at =
    named_rows lists opening author action (place.name ∷ []) names
    ∙ vertex_fault_tells g lists of place.name fault is (action_rows lists opening author action)

pub position_fault_first : (g : Graph) (place : Place) (v : Vertex) (fault : ActFault) → IsOneNamed g place.name v → cond (is_none (sort_at_place v place)) (Some (NoPosition v)) None ≡ Some fault
    → IsFirstAt g place fault
position_fault_first g place v fault one told lists opening author action of names at =
    one_vertex_rows lists opening author action place v g of names at (only_from g lists of place.name v one)
    ∙ stop (position_fault lists opening author action place v) (rows_after lists opening author action place v) fault told

pub two_fault_first : (g : Graph) (place : Place) (name : Name) (fault : ActFault) → IsFirstVertexFault g place.name name fault → IsFirstOfTwo g place name fault
two_fault_first g place name fault is lists opening author action of names at =
    named_rows lists opening author action (place.name ∷ name ∷ []) names
    ∙ two_names_tell g lists of place.name name fault is (action_rows lists opening author action)

pub position_fault_of_two : (g : Graph) (place : Place) (name : Name) (v w : Vertex) (fault : ActFault) → IsOneNamed g place.name v → IsOneNamed g name w
    → cond (is_none (sort_at_place v place)) (Some (NoPosition v)) None ≡ Some fault → IsFirstOfTwo g place name fault
position_fault_of_two g place name v w fault one other told lists opening author action of names at =
    two_vertex_rows lists opening author action place v g of name w names at (only_from g lists of place.name v one) (only_from g lists of name w other)
    ∙ stop (position_fault lists opening author action place v) (rows_after lists opening author action place v) fault told

-- ---- where there is

has_position : (v : Vertex) (place : Place) (sort : Sort) → sort_at_place v place ≡ Some sort → cond (is_none (sort_at_place v place)) (Some (NoPosition v)) None ≡ None
has_position v place sort is = ap (λ (o : Option Sort). cond (is_none o) (Some (NoPosition v)) None) is

pub after_spot : (g : Graph) (lists : GraphLists) → AreListsOf g lists → (opening : List Edge) (author : ℕ) (action : Action) (place : Place) (spot : Spot) → IsSpot g place spot
    → vertex_names action ≡ place.name ∷ [] → place_of action ≡ Some place
    → first_fault lists opening author action ≡ first_some (rows_after lists opening author action place spot.vertex)
after_spot g lists of opening author action place spot is names at =
    one_vertex_rows lists opening author action place spot.vertex g of names at (only_from g lists of place.name spot.vertex is.one)
    ∙ skip (position_fault lists opening author action place spot.vertex) (rows_after lists opening author action place spot.vertex) (has_position spot.vertex place spot.sort is.wanted)

pub after_two : (g : Graph) (lists : GraphLists) → AreListsOf g lists → (opening : List Edge) (author : ℕ) (action : Action) (place : Place) (spot : Spot) → IsSpot g place spot
    → (name : Name) (w : Vertex) → IsOneNamed g name w → vertex_names action ≡ place.name ∷ name ∷ [] → place_of action ≡ Some place
    → first_fault lists opening author action ≡ first_some (rows_after lists opening author action place spot.vertex)
after_two g lists of opening author action place spot is name w other names at =
    two_vertex_rows lists opening author action place spot.vertex g of name w names at (only_from g lists of place.name spot.vertex is.one) (only_from g lists of name w other)
    ∙ skip (position_fault lists opening author action place spot.vertex) (rows_after lists opening author action place spot.vertex) (has_position spot.vertex place spot.sort is.wanted)

-- ---- the sort that is wanted there

pub sort_row : (lists : GraphLists) (opening : List Edge) (author : ℕ) (action : Action) (place : Place) (v : Vertex) (wanted found : Sort) (answer : Option ActFault)
    → sort_at_place v place ≡ Some wanted → found_sort lists action ≡ Some found → other_sort (Some wanted) (Some found) ≡ answer → sort_fault lists opening author action place v ≡ answer
sort_row lists opening author action place v wanted found answer is own told =
    ap (λ o. other_sort o (found_sort lists action)) is ∙ ap (other_sort (Some wanted)) own ∙ told

pub sort_fault_first : (g : Graph) (place : Place) (spot : Spot) (sort : Sort) (fault : ActFault) → IsSpot g place spot → other_sort (Some spot.sort) (Some sort) ≡ Some fault → IsFirstOfSort g place sort fault
sort_fault_first g place spot sort fault is told lists opening author action of names at own =
    after_spot g lists of opening author action place spot is names at
    ∙ stop (sort_fault lists opening author action place spot.vertex) _ fault (sort_row lists opening author action place spot.vertex spot.sort sort (Some fault) is.wanted own told)

pub same_sort : (wanted found : Sort) → wanted ≡ found → other_sort (Some wanted) (Some found) ≡ None
same_sort wanted found is = ap (λ s. other_sort (Some s) (Some found)) is ∙ itself found where
  itself : (s : Sort) → other_sort (Some s) (Some s) ≡ None
  itself Top = refl
  itself Exp = refl
  itself Pat = refl
  itself Typ = refl
