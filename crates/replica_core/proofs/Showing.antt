-- Plans on what is shown of a content are its own.
use Rattle.std.proofs.Common.{◌≡◌, ℕ, List, sym, ap, subst, ◌∙◌}
use Rattle.grove_edits.specs.declared.edge.Edge.{Edge}
use Rattle.grove_edits.specs.declared.edit.Edit.{Edit}
use Rattle.grove_edits.specs.declared.action.Action.{Action}
use Rattle.grove_edits.specs.declared.answer.Answer.{Answer}
use Rattle.grove_edits.specs.Graph.{Graph, graph}
use Rattle.graph_words.specs.Live.{holds_edge}
use Rattle.graph_words.specs.Whole.{AreLive}
use Rattle.graph_words.specs.States.{Entries, state_in}
use Rattle.user_actions.specs.Good.{AreWellFormed, AreOpening}
use Rattle.user_actions.specs.Plan.{IsPlan}
use Rattle.user_actions.proofs.OnePlan.{plan_along}
use Rattle.user_actions.proofs.SomePlan.{well_formed_along}
use Rattle.replica_core.specs.Content.{Content}
use Rattle.replica_core.specs.Kept.{content_of, IsKept}
use Rattle.replica_core.specs.Plain.{as_edits}
use Rattle.replica_core.specs.Shown.{Shows}
use Rattle.replica_core.specs.Step.{plan_of}
use Rattle.replica_core.proofs.Keeping.{content_seen, graph_seen, opening_seen}
use Rattle.replica_core.proofs.PlansTold.{edits_told, answer_told}

pub shown : (entries : Entries) (children parents opening : List Edge) (content : Content) → IsKept entries opening → content_of entries opening ≡ content → AreLive (state_in entries) children → AreLive (state_in entries) parents
    → Shows (state_in entries) children parents opening content
shown entries children parents opening content of view children_live parents_live = record {
  content_holds = content_seen entries opening content of view;
  same = graph_seen entries opening content of view;
  children_live = children_live;
  parents_live = parents_live;
  same_opening = opening_seen entries opening content of view;
}

module _ (states : Graph) (children parents opening : List Edge) (content : Content) (shows : Shows states children parents opening content) where
  pub well_formed_shown : AreWellFormed states
  well_formed_shown = well_formed_along states content.edits shows.same

  pub opening_shown : AreOpening states opening
  opening_shown e held absent = shows.content_holds.opening_known e (ap (holds_edge e) (sym shows.same_opening) ∙ held) (sym (shows.same e) ∙ absent)

  module _ (author : ℕ) (action : Action) (edits : List Edit) (answer : Answer) (is : IsPlan states opening author action edits answer) where
    pub plan_shown : IsPlan (graph content.edits) content.opening author action edits answer
    plan_shown =
        subst (λ (edges : List Edge). IsPlan (graph content.edits) edges author action edits answer) shows.same_opening
        (plan_along states (graph content.edits) opening author action edits answer shows.same is)

    pub edits_shown : edits ≡ as_edits (plan_of content author action).edits
    edits_shown = edits_told content shows.content_holds author action edits answer plan_shown

    pub answer_shown : answer ≡ (plan_of content author action).answer
    answer_shown = answer_told content shows.content_holds author action edits answer plan_shown
