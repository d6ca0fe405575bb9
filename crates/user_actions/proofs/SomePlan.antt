-- Every graph of edits and every action has a plan.
use Rattle.std.proofs.Common.{◌≡◌, ◌≢◌, ℕ, ◌<◌, ◌^◌, Bool, true, false, cond, List, [], ◌∷◌, map, refl, sym, subst, ◌∙◌}
use Rattle.std.specs.Prelude.{Option, None, Some, is_none}
use Rattle.edge_lattice.specs.declared.state.State.TheVariants.{Absent}
use Rattle.grove_edits.specs.declared.edge.Edge.{Edge}
use Rattle.grove_edits.specs.declared.edit.Edit.{Edit}
use Rattle.grove_edits.specs.Edge.{edge_fault, IsWellFormed, EdgeInRange}
use Rattle.grove_edits.specs.Edit.{edit_edge, edit_kind}
use Rattle.grove_edits.specs.Graph.{Graph, graph, graph_join, state_of, is_same_edge, IsSame}
use Rattle.grove_edits.proofs.Orders.{one_edge}
use Rattle.graph_words.specs.Live.{IsInEdgeOrder}
use Rattle.grove_edits.specs.declared.action.Action.{Action}
use Rattle.grove_edits.specs.declared.act_fault.ActFault.{ActFault}
use Rattle.grove_edits.specs.declared.answer.Answer.{Answer}
use Rattle.grove_edits.specs.declared.answer.Answer.TheVariants.{Refused}
use Rattle.graph_words.specs.States.{well_formed}
use Rattle.user_actions.specs.Lists.{GraphLists, AreListsOf, ArePresent}
use Rattle.user_actions.specs.Faults.{first_fault}
use Rattle.user_actions.specs.Plan.{IsPlan, IsMade}
use Rattle.user_actions.specs.Actions.{edits_of, answer_of}
use Rattle.user_actions.specs.Good.{AreWellFormed, AreInRange, AreOpening, HasLiteralInRange}
use Rattle.user_actions.proofs.NoFault.{no_fault}
use Rattle.user_actions.proofs.PlainGraphs.{both_absent}
use Rattle.user_actions.proofs.SomeLists.{absent_joined, lists_from, lists_are, edits_have}
use Rattle.user_actions.proofs.OnePlan.{plan_from_made, plan_from_fault, plan_along}
use Rattle.user_actions.proofs.GoodEdits.{edits_from}
use Rattle.user_actions.proofs.GoodPlans.{good_plan}

-- ---- the edges of edits are well formed, and their numbers lie in their ranges

named_good : (P : Edge → Type 0) → ((edit : Edit) → P (edit_edge edit)) → (edits : List Edit) (e : Edge) → graph edits e ≢ Absent → P e
named_good P each [] e some = absurd (some refl)
named_good P each (edit ∷ edits) e some = by_test (is_same_edge (edit_edge edit) e) refl (named_good P each edits e) where
  by_test : (b : Bool) → is_same_edge (edit_edge edit) e ≡ b → (graph edits e ≢ Absent → P e) → P e
  by_test true same later = subst P (one_edge (edit_edge edit) e same) (each edit)
  by_test false other later =
      later (λ absent. some (absent_joined (is_same_edge (edit_edge edit) e) (state_of (edit_kind edit)) (graph edits e) other ∙ absent))

pub edits_well_formed : (edits : List Edit) → AreWellFormed (graph edits)
edits_well_formed edits = named_good IsWellFormed (λ edit. edit.well_formed) edits

pub edits_in_range : (edits : List Edit) → AreInRange (graph edits)
edits_in_range edits = named_good EdgeInRange (λ edit. edit.in_range) edits

pub well_formed_along : (g : Graph) (list : List Edit) → IsSame g (graph list) → AreWellFormed g
well_formed_along g list same e some = edits_well_formed list e (λ absent. some (same e ∙ absent))

-- what a graph had as an opening set was made is not Absent in it
pub opening_of : (g : Graph) (opening : List Edge) → ArePresent (well_formed g) opening → AreOpening g opening
opening_of g opening of e held absent = of.no_other e held (by_fault (is_none (edge_fault e)) absent) where
  by_fault : (b : Bool) → g e ≡ Absent → cond b (g e) Absent ≡ Absent
  by_fault true is = is
  by_fault false is = refl

-- and is still there later
pub opening_known : (earlier g : Graph) (edits : List Edit) (opening : List Edge) → ArePresent (well_formed earlier) opening → IsSame g (graph_join earlier (graph edits)) → AreOpening g opening
opening_known earlier g edits opening of same e held absent = opening_of earlier opening of e held (both_absent (earlier e) (graph edits e) (sym (same e) ∙ absent)).0

-- ---- a plan

plan_of_edits : (list : List Edit) (opening : List Edge) (author : ℕ) (action : Action) → IsInEdgeOrder opening → AreOpening (graph list) opening → 0 < author → author < 2 ^ 32 → HasLiteralInRange action
    → (edits : List Edit) × (answer : Answer) × IsPlan (graph list) opening author action edits answer
plan_of_edits list opening author action order opened positive small in_range = by_fault (first_fault lists opening author action) refl where
  lists : GraphLists
  lists = lists_from (graph list) (map edit_edge list) (edits_have list)

  of : AreListsOf (graph list) lists
  of = lists_are (graph list) (map edit_edge list) (edits_have list)

  by_fault : (o : Option ActFault) → first_fault lists opening author action ≡ o → (edits : List Edit) × (answer : Answer) × IsPlan (graph list) opening author action edits answer
  by_fault (Some fault) is = ([], Refused fault, plan_from_fault (graph list) lists opening author action fault order of is)
  by_fault None is =
      let found = edits_from (edits_of lists opening author action)
      ((good_plan (graph list) lists of opening author action (no_fault lists opening author action is)).good
      (record { well = edits_well_formed list; ranged = edits_in_range list; positive = positive; small = small; opened = opened; literals = in_range })) in
      let made : IsMade lists opening author action found.0 (answer_of lists author action) = record { no_fault = is; edits_are = found.1; answer_is = refl } in
      (found.0, answer_of lists author action, plan_from_made (graph list) lists opening author action found.0 (answer_of lists author action) order of made)

pub some_plan : (g : Graph) (list : List Edit) (opening : List Edge) (author : ℕ) (action : Action) → IsSame g (graph list) → IsInEdgeOrder opening → AreOpening g opening → 0 < author → author < 2 ^ 32 → HasLiteralInRange action
    → (edits : List Edit) × (answer : Answer) × IsPlan g opening author action edits answer
some_plan g list opening author action same order opened positive small in_range =
    let found = plan_of_edits list opening author action order (λ e held absent. opened e held (same e ∙ absent)) positive small in_range in
    (found.0, found.1, plan_along (graph list) g opening author action found.0 found.1 (λ e. sym (same e)) found.2)
