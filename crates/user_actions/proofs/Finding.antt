-- What the checks of an action tell of its faults, and that what they found can be made.
use Rattle.std.proofs.Common.{◌≡◌, ℕ, ◌+◌, ◌<◌, ◌≤◌, cond, true, List, get_or, sym, ap, subst, ◌∙◌, arith}
use Rattle.std.specs.Prelude.{Option, None, Some, Result, Ok, Err, IsErrAnd, IfSome, is_none, slice_get, option_and_then}
use Rattle.std.specs.List.{All}
use Rattle.grove_sorts.specs.declared.sort.Sort.{Sort}
use Rattle.grove_sorts.specs.declared.position.Position.{Position}
use Rattle.grove_sorts.specs.declared.ctor.Ctor.{Ctor}
use Rattle.grove_sorts.specs.Ctor.{sort_at, sort_of_ctor, first_position}
use Rattle.grove_sorts.proofs.Rows.{first_position_found}
use Rattle.grove_edits.specs.declared.vertex.Vertex.{Vertex}
use Rattle.grove_edits.specs.declared.edge.Edge.{Edge}
use Rattle.grove_edits.specs.Edge.{IsWellFormed}
use Rattle.grove_edits.specs.Vertex.{is_vertex}
use Rattle.grove_edits.specs.Graph.{Graph}
use Rattle.graph_words.specs.Live.{children_of, holds_edge}
use Rattle.graph_words.specs.Whole.{AreLive}
use Rattle.grove_edits.specs.declared.action.Place.{Place}
use Rattle.grove_edits.specs.declared.action.Action.{Action}
use Rattle.grove_edits.specs.declared.action.Action.TheVariants.{Wrap}
use Rattle.grove_edits.specs.declared.act_fault.ActFault.{ActFault}
use Rattle.grove_edits.specs.declared.act_fault.ActFault.TheVariants.{Empty, CannotWrap}
use Rattle.user_actions.specs.declared.planned.PlanFault.{PlanFault}
use Rattle.user_actions.specs.declared.planned.PlanFault.TheVariants.{Refused, NoMemory}
use Rattle.user_actions.specs.declared.new_names.NewNames.{NewNames}
use Rattle.user_actions.specs.declared.spot.Spot.{Spot}
use Rattle.user_actions.specs.declared.admitted.Admitted.{Admitted}
use Rattle.user_actions.specs.Lists.{GraphLists}
use Rattle.user_actions.specs.Good.{AreWellFormed}
use Rattle.user_actions.specs.Place.{sort_at_place}
use Rattle.user_actions.specs.Faults.{first_fault, last_counter}
use Rattle.user_actions.specs.Actions.{cannot_wrap}
use Rattle.user_actions.specs.Checks.{wrapping_position}
use Rattle.user_actions.specs.Carried.{carried}
use Rattle.user_actions.specs.Spot.{IsSpot}
use Rattle.user_actions.specs.Standing.{CanStandAt}
use Rattle.user_actions.specs.Admitted.{made_of, HasNames, CanStandIn, TellsFound, TellsAdmitted}
use Rattle.user_actions.proofs.NoFault.{IsOnly, at_place_is}
use Rattle.user_actions.proofs.GoodEdges.{parts_of, vertex_good}
use Rattle.user_actions.proofs.LiveEdges.{live_well, children_live, child_sort, carried_stands, all_well}
use Rattle.user_actions.proofs.MadeEdges.{made_stands}
use Rattle.user_actions.proofs.Openings.{held_at}

-- ---- faults

pub refused : (lists : GraphLists) (opening : List Edge) (author : ℕ) (action : Action) (r : Result Admitted PlanFault) (fault : ActFault) → IsErrAnd r (λ e. e ≡ Refused fault)
    → first_fault lists opening author action ≡ Some fault → TellsFound lists opening author action r
refused lists opening author action (Ok found) fault gives first = absurd gives
refused lists opening author action (Err e) fault gives first = by_fault e gives where
  by_fault : (e : PlanFault) → e ≡ Refused fault → TellsFound lists opening author action (Err e)
  by_fault (Refused told) is = let same : told ≡ fault = cc in first ∙ ap Some (sym same)
  by_fault NoMemory is = tt

pub filled_row : (place : Place) (es fs : List Edge) (answer : Option ActFault) → es ≡ fs → cond (is_none (slice_get es 0)) (Some (Empty place)) None ≡ answer → cond (is_none (slice_get fs 0)) (Some (Empty place)) None ≡ answer
filled_row place es fs answer same told = ap (λ (xs : List Edge). cond (is_none (slice_get xs 0)) (Some (Empty place)) None) (sym same) ∙ told

pub wrap_row : (lists : GraphLists) (place : Place) (ctor : Ctor) (v : Vertex) (sort : Sort) (answer : Option ActFault) → IsOnly lists place.name v → sort_at_place v place ≡ Some sort
    → cond (is_none (first_position ctor sort)) (Some (CannotWrap ctor)) None ≡ answer → cannot_wrap lists (Wrap place ctor) ≡ answer
wrap_row lists place ctor v sort answer only wanted told =
    at_place_is lists place v (λ w at. cond (is_none (wrapping_position ctor w at)) (Some (CannotWrap ctor)) None) only
    ∙ ap (λ (o : Option Sort). cond (is_none (option_and_then (first_position ctor) o)) (Some (CannotWrap ctor)) None) wanted ∙ told

-- ---- new names

pub own_names : (names : NewNames) (author greatest : ℕ) → names.author ≡ author → names.greatest ≡ greatest → names ≡ record { author = author; greatest = greatest }
own_names names author greatest by last =
    ap (λ (a : ℕ). let own : NewNames = record { author = a; greatest = names.greatest } in own) by
    ∙ ap (λ (n : ℕ). let own : NewNames = record { author = author; greatest = n } in own) last

pub has_names : (names : NewNames) (author given count : ℕ) → names.author ≡ author → 0 < author → names.greatest + given ≤ last_counter → given ≡ count → HasNames names count
has_names names author given count by positive fits same = record { author = omega arith; fits = omega arith }

-- ---- what can stand at the place

module _ (g : Graph) (well : AreWellFormed g) (place : Place) (spot : Spot) (is : IsSpot g place spot) where
  wanted_at : (sort : Sort) → spot.sort ≡ sort → sort_at spot.vertex.ctor spot.place.position ≡ Some sort
  wanted_at sort same = ap (λ (p : Place). sort_at spot.vertex.ctor p.position) is.is_place ∙ is.wanted ∙ ap Some same

  pub stands : (v : Vertex) → is_vertex v ≡ true → spot.sort ≡ sort_of_ctor v.ctor → CanStandIn spot v
  stands v good sort = record { source = vertex_good g well spot.vertex is.one.0.1; target = good; sort = wanted_at (sort_of_ctor v.ctor) sort }

  pub new_stands : (names : NewNames) (ctor : Ctor) → 0 < names.author → spot.sort ≡ sort_of_ctor ctor → CanStandIn spot (made_of names ctor)
  new_stands names ctor positive sort =
      made_stands spot.vertex (made_of names ctor) spot.place.position (vertex_good g well spot.vertex is.one.0.1) positive (omega arith) (wanted_at (sort_of_ctor ctor) sort)

-- ---- what can stand below a new vertex

module _ (g : Graph) (live : List Edge) (well : AreWellFormed g) (are : AreLive g live) (made : Vertex) (good : is_vertex made ≡ true) where
  -- what stood at a place, where the position wants its sort
  pub wrapped_stand : (es : List Edge) (v : Vertex) (p below : Position) (sort : Sort) → es ≡ children_of v p live → sort_at v.ctor p ≡ Some sort → first_position made.ctor sort ≡ Some below
      → All (λ e. CanStandAt made below e.target) es
  wrapped_stand es v p below sort at wanted position k d lt =
      let e : Edge = get_or es k d in
      let held : holds_edge e es ≡ true = held_at es k d lt in
      let found : sort_at made.ctor below ≡ Some sort = subst (λ o. IfSome o (λ q. sort_at made.ctor q ≡ Some sort)) position (first_position_found made.ctor sort) in
      record {
        source = good;
        target = (parts_of e (live_well g live well are e (children_live live es v p at e held))).target;
        sort = found ∙ ap Some (child_sort g live es v p well are at e held sort wanted);
      }

  -- the edges that are carried over
  pub moved_stand : (es : List Edge) (replaced : Edge) → es ≡ carried made.ctor replaced live → All (λ e. CanStandAt made e.position e.target) es
  moved_stand es replaced is k d lt =
      let e : Edge = get_or es k d in
      let facts = carried_stands g live well are made.ctor replaced e (ap (holds_edge e) (sym is) ∙ held_at es k d lt) in
      record { source = good; target = (parts_of e facts.0).target; sort = facts.1 }

pub moved_well : (g : Graph) (live : List Edge) → AreWellFormed g → AreLive g live → (ctor : Ctor) (es : List Edge) (replaced : Edge) → es ≡ carried ctor replaced live → All IsWellFormed es
moved_well g live well are ctor es replaced is = all_well es (λ e held. (carried_stands g live well are ctor replaced e (ap (holds_edge e) (sym is) ∙ held)).0)

-- what is told of an action is told of one that is the same
pub told_along : (g : Graph) (opening : List Edge) (author : ℕ) (action same : Action) (result : Result Admitted PlanFault) → action ≡ same → TellsAdmitted g opening author same result
    → TellsAdmitted g opening author action result
told_along g opening author action same result is told = subst (λ (other : Action). TellsAdmitted g opening author other result) (sym is) told
