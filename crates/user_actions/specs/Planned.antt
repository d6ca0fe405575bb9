-- What a call that plans an action needs, and what its answer tells.
use Rattle.std.specs.Prelude.{◌≡◌, ◌<◌, ℕ, List, [], Some, Result, Ok, Err}
use Rattle.grove_edits.specs.declared.edge.Edge.{Edge}
use Rattle.grove_edits.specs.Graph.{Graph}
use Rattle.graph_words.specs.Live.{IsInEdgeOrder}
use Rattle.graph_words.specs.Whole.{AreLive}
use Rattle.grove_edits.specs.declared.action.Action.{Action}
use Rattle.grove_edits.specs.declared.answer.Answer.TheVariants.{Refused as refused}
use Rattle.user_actions.specs.declared.planned.Plan.{Plan}
use Rattle.user_actions.specs.declared.planned.PlanFault.{PlanFault}
use Rattle.user_actions.specs.declared.planned.PlanFault.TheVariants.{Refused, NoMemory}
use Rattle.user_actions.specs.Lists.{GraphLists}
use Rattle.user_actions.specs.Faults.{first_fault}
use Rattle.user_actions.specs.Plan.{IsPlan, IsMade}
use Rattle.user_actions.specs.Good.{AreWellFormed, AreOpening}

-- the graph has well-formed edges, the indexes hold its live ones, the opening edges stand in order and are not Absent in it, and the
-- author has a number
pub record CanPlan (g : Graph) (opening children parents : List Edge) (author : ℕ) : Type 0 where
  pub well_formed : AreWellFormed g
  pub opening_edges : AreOpening g opening
  pub opening_in_order : IsInEdgeOrder opening
  pub live_children : AreLive g children
  pub live_parents : AreLive g parents
  pub is_author : 0 < author

-- the action is refused with this fault, unless memory ran out
abbrev pub IsRefusal : Graph → List Edge → ℕ → Action → PlanFault → Type 0
IsRefusal g opening author action (Refused fault) = IsPlan g opening author action [] (refused fault)
IsRefusal g opening author action NoMemory = Unit {0}

-- the answer is what the lists of the graph say: the edits and the answer where no fault applies, or the first fault
abbrev pub TellsPlan : GraphLists → List Edge → ℕ → Action → Result Plan PlanFault → Type 0
TellsPlan lists opening author action (Ok plan) = IsMade lists opening author action plan.edits plan.answer
TellsPlan lists opening author action (Err (Refused fault)) = first_fault lists opening author action ≡ Some fault
TellsPlan lists opening author action (Err NoMemory) = Unit {0}
