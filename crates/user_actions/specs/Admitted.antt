-- What the checks of an action found: the edits and the answer that are made of it.
use Rattle.std.specs.Prelude.{◌≡◌, ℕ, ◌+◌, ◌<◌, ◌≤◌, List, [], ◌∷◌, length, Some, None, Result, Ok, Err}
use Rattle.std.specs.List.{All}
use Rattle.grove_sorts.specs.declared.ctor.Ctor.{Ctor}
use Rattle.grove_edits.specs.declared.vertex.Vertex.{Vertex}
use Rattle.grove_edits.specs.declared.edge.Edge.{Edge}
use Rattle.grove_edits.specs.Edge.{IsWellFormed}
use Rattle.grove_edits.specs.Graph.{Graph}
use Rattle.grove_edits.specs.declared.action.Action.{Action}
use Rattle.grove_edits.specs.declared.answer.Answer.{Answer}
use Rattle.grove_edits.specs.declared.answer.Answer.TheVariants.{Made, Moved, Done}
use Rattle.user_actions.specs.declared.new_names.NewNames.{NewNames}
use Rattle.user_actions.specs.declared.spot.Spot.{Spot}
use Rattle.user_actions.specs.declared.admitted.Admitted.{Admitted}
use Rattle.user_actions.specs.declared.admitted.Admitted.TheVariants.{Construct, Wrap, Become, Delete, Relocate, Restore}
use Rattle.user_actions.specs.declared.planned.PlanFault.{PlanFault}
use Rattle.user_actions.specs.declared.planned.PlanFault.TheVariants.{Refused, NoMemory}
use Rattle.user_actions.specs.Lists.{GraphLists, AreListsOf}
use Rattle.user_actions.specs.Names.{new_name}
use Rattle.user_actions.specs.Faults.{first_fault, last_counter}
use Rattle.user_actions.specs.PlainEdits.{PlainEdit, deletion, deletions, insertion, new_vertex, to_new_vertex, carry_over, wrap_edits, relocate_edits}
use Rattle.user_actions.specs.Actions.{edits_of, answer_of}
use Rattle.user_actions.specs.Standing.{CanStandAt}

-- the new vertex
abbrev pub made_of : NewNames → Ctor → Vertex
made_of names ctor = new_vertex names.author names.greatest ctor

abbrev pub edits_made : Admitted → List PlainEdit
edits_made (Construct spot ctor names) = to_new_vertex names.author names.greatest ctor spot.vertex spot.place ∷ []
edits_made (Wrap spot ctor below wrapped names) = wrap_edits names.author names.greatest ctor spot.vertex spot.place (Some below) wrapped.items
edits_made (Become spot ctor replaced moved names) =
    deletion replaced ∷ to_new_vertex names.author names.greatest ctor spot.vertex spot.place ∷ carry_over names.author names.greatest (made_of names ctor) 3 moved.items
edits_made (Delete edges) = deletions edges.items
edits_made (Relocate spot old names) = relocate_edits names.author names.greatest spot.vertex spot.place (old ∷ [])
edits_made (Restore spot moved names) = insertion (new_name names.author names.greatest 1) spot.vertex spot.place.position moved ∷ []

abbrev pub answer_made : Admitted → Answer
answer_made (Construct spot ctor names) = Made (new_name names.author names.greatest 1)
answer_made (Wrap spot ctor below wrapped names) = Made (new_name names.author names.greatest 1)
answer_made (Become spot ctor replaced moved names) = Made (new_name names.author names.greatest 1)
answer_made (Delete edges) = Done
answer_made (Relocate spot old names) = Moved (new_name names.author names.greatest 1)
answer_made (Restore spot moved names) = Moved (new_name names.author names.greatest 1)

-- so many new names are left
pub record HasNames (names : NewNames) (count : ℕ) : Type 0 where
  pub author : 0 < names.author
  pub fits : names.greatest + count ≤ last_counter

-- a vertex can stand at the spot
abbrev pub CanStandIn : Spot → Vertex → Type 0
CanStandIn spot target = CanStandAt spot.vertex spot.place.position target

-- the edges of all edits are well formed
abbrev pub CanBeMade : Admitted → Type 0
CanBeMade (Construct spot ctor names) = HasNames names 2 × CanStandIn spot (made_of names ctor)
CanBeMade (Wrap spot ctor below wrapped names) =
    HasNames names (2 + length wrapped.items) × CanStandIn spot (made_of names ctor) × All IsWellFormed wrapped.items
    × All (λ e. CanStandAt (made_of names ctor) below e.target) wrapped.items
CanBeMade (Become spot ctor replaced moved names) =
    HasNames names (2 + length moved.items) × CanStandIn spot (made_of names ctor) × IsWellFormed replaced × All IsWellFormed moved.items
    × All (λ e. CanStandAt (made_of names ctor) e.position e.target) moved.items
CanBeMade (Delete edges) = All IsWellFormed edges.items
CanBeMade (Relocate spot old names) = HasNames names 1 × CanStandIn spot old.target × IsWellFormed old
CanBeMade (Restore spot moved names) = HasNames names 1 × CanStandIn spot moved

-- no fault applies, and the edits and the answer of the action are made of what was found
pub record IsFound (lists : GraphLists) (opening : List Edge) (author : ℕ) (action : Action) (found : Admitted) : Type 0 where
  pub no_fault : first_fault lists opening author action ≡ None
  pub edits_are : edits_made found ≡ edits_of lists opening author action
  pub answer_is : answer_made found ≡ answer_of lists author action

-- what was found, or the first fault that applies
abbrev pub TellsFound : GraphLists → List Edge → ℕ → Action → Result Admitted PlanFault → Type 0
TellsFound lists opening author action (Ok found) = IsFound lists opening author action found
TellsFound lists opening author action (Err (Refused fault)) = first_fault lists opening author action ≡ Some fault
TellsFound lists opening author action (Err NoMemory) = Unit {0}

-- this is so by the lists of the graph
pub record TellsAdmitted (g : Graph) (opening : List Edge) (author : ℕ) (action : Action) (result : Result Admitted PlanFault) : Type 0 where
  pub each : (lists : GraphLists) → AreListsOf g lists → TellsFound lists opening author action result
