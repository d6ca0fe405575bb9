-- What an action does to a graph: its edits, and what is answered.
-- The promise of the commands rests on these definitions.
use Rattle.std.specs.Prelude.{◌≡◌, ℕ, List, [], map, Option, None, Some}
use Rattle.grove_edits.specs.declared.edge.Edge.{Edge}
use Rattle.grove_edits.specs.declared.edit.Edit.{Edit}
use Rattle.grove_edits.specs.Graph.{Graph}
use Rattle.graph_words.specs.Live.{IsInEdgeOrder}
use Rattle.grove_edits.specs.declared.action.Action.{Action}
use Rattle.grove_edits.specs.declared.act_fault.ActFault.{ActFault}
use Rattle.grove_edits.specs.declared.answer.Answer.{Answer}
use Rattle.grove_edits.specs.declared.answer.Answer.TheVariants.{Refused}
use Rattle.user_actions.specs.Lists.{GraphLists, AreListsOf}
use Rattle.user_actions.specs.Faults.{first_fault}
use Rattle.user_actions.specs.Actions.{edits_of, answer_of}
use Rattle.user_actions.specs.PlainEdits.{PlainEdit, plain}

pub record Planned : Type 0 where
  pub edits : List PlainEdit
  pub answer : Answer

abbrev pub unless_refused : Option ActFault → Planned → Planned
unless_refused (Some fault) planned = record { edits = []; answer = Refused fault }
unless_refused None planned = planned

-- the plan of an action on the graph with these lists: where a fault applies the action is refused and makes no edits
abbrev pub plan : GraphLists → List Edge → ℕ → Action → Planned
plan lists opening author action =
    unless_refused (first_fault lists opening author action)
    (record { edits = edits_of lists opening author action; answer = answer_of lists author action })

-- no fault applies, and these are the edits and the answer
pub record IsMade (lists : GraphLists) (opening : List Edge) (author : ℕ) (action : Action) (edits : List Edit) (answer : Answer) : Type 0 where
  pub no_fault : first_fault lists opening author action ≡ None
  pub edits_are : map plain edits ≡ edits_of lists opening author action
  pub answer_is : answer ≡ answer_of lists author action

-- Edits and an answer are the plan of an author's action on a graph, in a block that opened with these edges not Absent. The edges stand
-- in edge order, each once.
pub record IsPlan (g : Graph) (opening : List Edge) (author : ℕ) (action : Action) (edits : List Edit) (answer : Answer) : Type 0 where
  pub opening_in_order : IsInEdgeOrder opening
  pub lists : GraphLists
  pub are_lists : AreListsOf g lists
  pub edits_are : map plain edits ≡ (plan lists opening author action).edits
  pub answer_is : answer ≡ (plan lists opening author action).answer
