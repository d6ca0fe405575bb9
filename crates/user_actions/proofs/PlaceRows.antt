-- The faults of an action whose place has one vertex, in terms of that vertex.
use Rattle.std.proofs.Common.{◌≡◌, ℕ, ◌+◌, ◌<◌, ◌≤◌, Bool, true, false, cond, List, [], ◌∷◌, refl, ap, ◌∙◌, arith, lt-ltb}
use borrow.Author.Tests.{ltb-true}
use Rattle.std.specs.Prelude.{◌&&◌, nat_lt, Option, None, Some, is_none, option_map, slice_get}
use Rattle.grove_names.specs.declared.name.Name.{Name}
use Rattle.grove_edits.specs.declared.vertex.Vertex.{Vertex}
use Rattle.grove_edits.specs.declared.edge.Edge.{Edge}
use Rattle.graph_words.specs.Live.{children_of}
use Rattle.graph_words.specs.Whole.{AreLive}
use Rattle.grove_edits.specs.Graph.{Graph}
use Rattle.graph_words.specs.Names.{IsGreatest, IsNameOf}
use Rattle.grove_terms.proofs.OneGrove.{one_live}
use Rattle.grove_edits.specs.declared.action.Place.{Place}
use Rattle.grove_edits.specs.declared.action.Action.{Action}
use Rattle.grove_edits.specs.declared.act_fault.ActFault.{ActFault}
use Rattle.grove_edits.specs.declared.act_fault.ActFault.TheVariants.{NoVertex, AmbiguousVertex, NoPosition, WrongSort, Occupied, Empty, CannotWrap, NoEdge, AmbiguousEdge, IntoItself, NotLoose, NamesSpent}
use Rattle.user_actions.specs.Lists.{GraphLists, AreListsOf}
use Rattle.user_actions.specs.Names.{greatest_counter}
use Rattle.user_actions.specs.Place.{sort_at_place, edges_at}
use Rattle.user_actions.specs.Spent.{IsSpent}
use Rattle.user_actions.specs.Faults.{no_vertex, ambiguous_vertex, no_position, wrong_sort, occupied, empty, into_itself, names_spent, last_counter, first_some, first_fault}
use Rattle.user_actions.specs.Actions.{place_of, vertex_names, found_sort, in_the_way, wants_edge, cannot_wrap, no_edge, ambiguous_edge, moved_vertex, not_loose, name_count}
use Rattle.user_actions.specs.Checks.{at_place, other_sort, below_itself}
use Rattle.user_actions.proofs.NoFault.{IsOnly, at_place_is}
use Rattle.user_actions.proofs.Telling.{one_tells, two_names_one, greatest_is}

abbrev AreSame : List (Option ActFault) → List (Option ActFault) → Type 0
AreSame [] [] = Unit {0}
AreSame [] (p ∷ ps) = ⊥
AreSame (o ∷ os) [] = ⊥
AreSame (o ∷ os) (p ∷ ps) = (o ≡ p) × AreSame os ps

same_rows : (os ps : List (Option ActFault)) → AreSame os ps → first_some os ≡ first_some ps
same_rows [] [] same = refl
same_rows [] (p ∷ ps) same = absurd same
same_rows (o ∷ os) [] same = absurd same
same_rows (None ∷ os) (p ∷ ps) same = same_rows os ps same.1 ∙ ap (λ q. first_some (q ∷ ps)) same.0
same_rows (Some fault ∷ os) (p ∷ ps) same = ap (λ q. first_some (q ∷ ps)) same.0

-- the faults behind those of the names
abbrev pub action_rows : GraphLists → List Edge → ℕ → Action → List (Option ActFault)
action_rows lists opening author action =
    no_position lists action ∷ wrong_sort lists action ∷ occupied lists action ∷ empty lists action ∷ cannot_wrap lists action ∷ no_edge lists opening action ∷ ambiguous_edge lists action
    ∷ into_itself lists action ∷ not_loose lists action ∷ names_spent lists author action ∷ []

-- an action that names these vertices has the faults of the names first
pub named_rows : (lists : GraphLists) (opening : List Edge) (author : ℕ) (action : Action) (names : List Name) → vertex_names action ≡ names
    → first_fault lists opening author action ≡ first_some (no_vertex lists.vertices names ∷ ambiguous_vertex lists.vertices names ∷ action_rows lists opening author action)
named_rows lists opening author action names is =
    ap (λ (ns : List Name). first_some (no_vertex lists.vertices ns ∷ ambiguous_vertex lists.vertices ns ∷ action_rows lists opening author action)) is

module _ (lists : GraphLists) (opening : List Edge) (author : ℕ) (action : Action) (place : Place) (v : Vertex) where
  abbrev pub position_fault : Option ActFault
  position_fault = cond (is_none (sort_at_place v place)) (Some (NoPosition v)) None

  abbrev pub sort_fault : Option ActFault
  sort_fault = other_sort (sort_at_place v place) (found_sort lists action)

  abbrev pub free_fault : Option ActFault
  free_fault = option_map Occupied (slice_get (in_the_way action (edges_at lists v place)) 0)

  abbrev pub filled_fault : Option ActFault
  filled_fault = cond (wants_edge action && is_none (slice_get (edges_at lists v place) 0)) (Some (Empty place)) None

  abbrev pub apart_fault : Option ActFault
  apart_fault = below_itself lists.live v (moved_vertex lists action)

  -- those behind the position
  abbrev pub rows_after : List (Option ActFault)
  rows_after =
      sort_fault ∷ free_fault ∷ filled_fault ∷ cannot_wrap lists action ∷ no_edge lists opening action ∷ ambiguous_edge lists action
      ∷ apart_fault ∷ not_loose lists action ∷ names_spent lists author action ∷ []

  abbrev pub rows_from : List (Option ActFault)
  rows_from = position_fault ∷ rows_after

  at_vertex : (fault : Vertex → Place → Option ActFault) → place_of action ≡ Some place → IsOnly lists place.name v → at_place lists (place_of action) fault ≡ fault v place
  at_vertex fault is only = ap (λ p. at_place lists p fault) is ∙ at_place_is lists place v fault only

  pub rows_are : place_of action ≡ Some place → IsOnly lists place.name v
      → first_some (action_rows lists opening author action) ≡ first_some rows_from
  rows_are is only =
      same_rows (action_rows lists opening author action) rows_from (
        at_vertex (λ w at. cond (is_none (sort_at_place w at)) (Some (NoPosition w)) None) is only,
        (
          at_vertex (λ w at. other_sort (sort_at_place w at) (found_sort lists action)) is only,
          (
            at_vertex (λ w at. option_map Occupied (slice_get (in_the_way action (edges_at lists w at)) 0)) is only,
            (
              at_vertex (λ w at. cond (wants_edge action && is_none (slice_get (edges_at lists w at) 0)) (Some (Empty at)) None) is only,
              (refl, (refl, (refl, (at_vertex (λ w at. below_itself lists.live w (moved_vertex lists action)) is only, (refl, (refl, tt)))))),
            ),
          ),
        ),
      )

  -- the faults of an action that names one vertex
  pub one_vertex_rows : (g : Graph) → AreListsOf g lists → vertex_names action ≡ place.name ∷ [] → place_of action ≡ Some place → IsOnly lists place.name v
      → first_fault lists opening author action ≡ first_some rows_from
  one_vertex_rows g of names is only =
      named_rows lists opening author action (place.name ∷ []) names
      ∙ one_tells g lists of place.name v only (action_rows lists opening author action) ∙ rows_are is only

  -- and of one that names two
  pub two_vertex_rows : (g : Graph) → AreListsOf g lists → (other : Name) (w : Vertex) → vertex_names action ≡ place.name ∷ other ∷ [] → place_of action ≡ Some place
      → IsOnly lists place.name v → IsOnly lists other w → first_fault lists opening author action ≡ first_some rows_from
  two_vertex_rows g of other w names is only and_other =
      named_rows lists opening author action (place.name ∷ other ∷ []) names
      ∙ two_names_one g lists of place.name other v w only and_other (action_rows lists opening author action) ∙ rows_are is only

-- ---- what the checks tell of the rows

pub live_is : (g : Graph) (lists : GraphLists) (live : List Edge) → AreListsOf g lists → AreLive g live → live ≡ lists.live
live_is g lists live of is = one_live g live lists.live is of.live

pub edges_are : (g : Graph) (lists : GraphLists) (live : List Edge) (v : Vertex) (place : Place) → AreListsOf g lists → AreLive g live
    → children_of v place.position live ≡ edges_at lists v place
edges_are g lists live v place of is = ap (λ es. children_of v place.position es) (live_is g lists live of is)

pub names_fit : (g : Graph) (lists : GraphLists) (author : ℕ) (action : Action) (greatest count : ℕ) → AreListsOf g lists → IsGreatest (IsNameOf g) author greatest
    → name_count lists action ≡ count → greatest + count ≤ last_counter → names_spent lists author action ≡ None
names_fit g lists author action greatest count of is counted fits = by_test (greatest_is g lists of author greatest is) (nat_lt last_counter (greatest_counter lists author + name_count lists action)) refl where
  nothing : (b : Bool) → (b && false) ≡ false
  nothing true = refl
  nothing false = refl

  by_test : greatest_counter lists author ≡ greatest → (b : Bool) → nat_lt last_counter (greatest_counter lists author + name_count lists action) ≡ b → names_spent lists author action ≡ None
  by_test own true above = let over = ltb-true last_counter (greatest_counter lists author + name_count lists action) above in absurd (omega arith)
  by_test own false within =
      ap (λ b. cond (nat_lt 0 (name_count lists action) && b) (Some (NamesSpent (greatest_counter lists author))) None) within
      ∙ ap (λ b. cond b (Some (NamesSpent (greatest_counter lists author))) None) (nothing (nat_lt 0 (name_count lists action)))

pub names_told : (g : Graph) (lists : GraphLists) (author : ℕ) (action : Action) (count : ℕ) (fault : ActFault) → AreListsOf g lists → IsSpent g author count fault
    → name_count lists action ≡ count → 0 < count → names_spent lists author action ≡ Some fault
names_told g lists author action count (NamesSpent greatest) of is counted positive =
    let own : greatest_counter lists author ≡ greatest = greatest_is g lists of author greatest is.0 in
    let some : nat_lt 0 (name_count lists action) ≡ true = lt-ltb 0 (name_count lists action) (omega arith) in
    let over = is.1 in
    let above : nat_lt last_counter (greatest_counter lists author + name_count lists action) ≡ true = lt-ltb last_counter (greatest_counter lists author + name_count lists action) (omega arith) in
    ap (λ b. cond (b && nat_lt last_counter (greatest_counter lists author + name_count lists action)) (Some (NamesSpent (greatest_counter lists author))) None) some
    ∙ ap (λ b. cond b (Some (NamesSpent (greatest_counter lists author))) None) above ∙ ap (λ n. Some (NamesSpent n)) own
names_told g lists author action count (NoVertex n) of is counted positive = absurd is
names_told g lists author action count (AmbiguousVertex a b) of is counted positive = absurd is
names_told g lists author action count (NoPosition w) of is counted positive = absurd is
names_told g lists author action count (WrongSort s t) of is counted positive = absurd is
names_told g lists author action count (Occupied e) of is counted positive = absurd is
names_told g lists author action count (Empty p) of is counted positive = absurd is
names_told g lists author action count (CannotWrap k) of is counted positive = absurd is
names_told g lists author action count (NoEdge n) of is counted positive = absurd is
names_told g lists author action count (AmbiguousEdge e f) of is counted positive = absurd is
names_told g lists author action count (IntoItself w) of is counted positive = absurd is
names_told g lists author action count (NotLoose e) of is counted positive = absurd is
