-- The plan on the graph of a canonical list, as a function of the list.
use Rattle.std.proofs.Common.{◌≡◌, ℕ, ◌<◌, ◌^◌, cond, List, [], refl, sym, ap, subst, ◌∙◌}
use Rattle.std.proofs.lemmas.Bool.{lt-ltb}
use Rattle.grove_edits.specs.declared.edit.Edit.{Edit}
use Rattle.grove_edits.specs.declared.act_fault.ActFault.{ActFault}
use Rattle.grove_edits.specs.declared.action.Action.{Action}
use Rattle.grove_edits.specs.declared.actor.Actor.TheVariants.{Author}
use Rattle.grove_edits.specs.declared.answer.Answer.{Answer}
use Rattle.grove_edits.specs.declared.answer.Answer.TheVariants.{Refused}
use Rattle.grove_edits.specs.declared.command.Command.TheVariants.{Act}
use Rattle.grove_edits.specs.Graph.{graph}
use Rattle.user_actions.specs.Good.{HasLiteralInRange}
use Rattle.user_actions.specs.Plan.{Planned, plan, IsPlan}
use Rattle.user_actions.proofs.OnePlan.{one_lists, refusal_has_none}
use Rattle.user_actions.proofs.SomePlan.{some_plan}
use Rattle.replica_core.specs.Plain.{as_edits}
use Rattle.replica_core.specs.Lists.{lists_of}
use Rattle.replica_core.specs.Content.{Content, IsContent, with_taken}
use Rattle.replica_core.specs.Step.{plan_of, nothing_planned, plan_by, effect, reply}
use Rattle.replica_core.proofs.AsEdits.{as_edits-plain}
use Rattle.replica_core.proofs.ListsOf.{lists_are}

module _ (content : Content) (of : IsContent content) (author : ℕ) (action : Action) (edits : List Edit) (answer : Answer) (is : IsPlan (graph content.edits) content.opening author action edits answer) where
  one_planned : plan is.lists content.opening author action ≡ plan_of content author action
  one_planned = ap (λ lists. plan lists content.opening author action) (one_lists (graph content.edits) is.lists (lists_of content.edits) is.are_lists (lists_are content.edits of.in_order))

  pub edits_told : edits ≡ as_edits (plan_of content author action).edits
  edits_told = sym (as_edits-plain edits) ∙ ap as_edits (is.edits_are ∙ ap (λ (p : Planned). p.edits) one_planned)

  pub answer_told : answer ≡ (plan_of content author action).answer
  answer_told = is.answer_is ∙ ap (λ (p : Planned). p.answer) one_planned

pub plan_of_is : (content : Content) (author : ℕ) (action : Action) → IsContent content → 0 < author → author < 2 ^ 32 → HasLiteralInRange action
    → IsPlan (graph content.edits) content.opening author action (as_edits (plan_of content author action).edits) (plan_of content author action).answer
plan_of_is content author action of positive small in_range =
    let found = some_plan (graph content.edits) content.edits content.opening author action (λ e. refl) of.opening_in_order of.opening_known positive small in_range in
    subst (λ (es : List Edit). IsPlan (graph content.edits) content.opening author action es (plan_of content author action).answer) (edits_told content of author action found.0 found.1 found.2)
    (subst (λ (a : Answer). IsPlan (graph content.edits) content.opening author action found.0 a) (answer_told content of author action found.0 found.1 found.2) found.2)

-- an action that is refused has no edits, so whoever takes its edits stays
pub refused_stays : (content : Content) (author : ℕ) (action : Action) (edits : List Edit) (answer : Answer) (fault : ActFault) → IsPlan (graph content.edits) content.opening author action edits answer
    → answer ≡ Refused fault → (edits ≡ []) × (with_taken edits content ≡ content)
refused_stays content author action edits answer fault is refused =
    let none : edits ≡ [] =
    refusal_has_none (graph content.edits) content.opening author action edits fault
    (subst (λ (a : Answer). IsPlan (graph content.edits) content.opening author action edits a) refused is) in
    (none, ap (λ (es : List Edit). with_taken es content) none)

-- the step of an author, whose number is at least 1, is the plan
pub acts : (content : Content) (author : ℕ) (action : Action) → 0 < author → plan_by content (Author author) action ≡ plan_of content author action
acts content author action positive = ap (λ b. cond b (plan_of content author action) nothing_planned) (lt-ltb 0 author positive)

pub step_is_plan : (content : Content) (author : ℕ) (action : Action) → IsContent content → 0 < author → author < 2 ^ 32 → HasLiteralInRange action
    → IsPlan (graph content.edits) content.opening author action (effect content (Author author) (Act action)) (reply content (Author author) (Act action))
step_is_plan content author action of positive small in_range =
    subst (λ (p : Planned). IsPlan (graph content.edits) content.opening author action (as_edits p.edits) p.answer) (sym (acts content author action positive))
    (plan_of_is content author action of positive small in_range)
