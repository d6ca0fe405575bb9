-- A replica that ran a block has a journal of plans, and has taken its edits.
use Rattle.std.proofs.Common.{◌≡◌, ℕ, List, [], ◌∷◌, ◌++◌, refl, sym, ap, subst, ◌∙◌, append_assoc, append-nil}
use Rattle.std.specs.List.{AllByRecursion}
use Rattle.edge_lattice.proofs.States.{Absent-state_join}
use Rattle.grove_edits.specs.declared.edit.Edit.{Edit}
use Rattle.grove_edits.specs.declared.action.Action.{Action}
use Rattle.grove_edits.specs.declared.actor.Actor.{Actor}
use Rattle.grove_edits.specs.declared.actor.Actor.TheVariants.{Author, Send}
use Rattle.grove_edits.specs.declared.answer.Answer.{Answer}
use Rattle.grove_edits.specs.declared.command.Command.{Command}
use Rattle.grove_edits.specs.declared.command.Command.TheVariants.{Act, Take}
use Rattle.grove_edits.specs.Graph.{Graph, graph, IsSame}
use Rattle.user_actions.specs.Lists.{ArePresent}
use Rattle.user_actions.specs.Good.{HasLiteralInRange}
use Rattle.user_actions.proofs.OnePlan.{plan_along}
use Rattle.shared_replica.specs.Replays.{machine_after, AreSteps}
use Rattle.session_script.specs.Action.{IsAuthor}
use Rattle.replica_core.specs.Canonical.{with_edits}
use Rattle.replica_core.specs.Content.{Content, IsContent, with_taken}
use Rattle.replica_core.specs.Step.{effect, reply, after}
use Rattle.replica_core.proofs.WithEdits.{graph-with_edits, with_edits-append}
use Rattle.replica_core.proofs.PlansTold.{step_is_plan}
use Rattle.replica_core.proofs.Contents.{content_taken}
use Rattle.session_report.specs.Journal.{Entries, IsPlanned, IsPlanNow, ArePlanned, edits_of}
use Rattle.session_answers.proofs.Commands.{CanBePlanned}

-- the graph of the edits taken
pub taken_graph : (taken : List Edit) → IsSame (graph (with_edits taken [])) (graph taken)
taken_graph taken e = graph-with_edits taken [] e ∙ Absent-state_join (graph taken e)

-- an author's action is planned on the graph of the edits taken
act_planned : (opened : Graph) (content : Content) (taken : List Edit) (author : ℕ) (action : Action) → IsContent content → ArePresent opened content.opening → content.edits ≡ with_edits taken []
    → IsAuthor author → HasLiteralInRange action → IsPlanNow opened (graph taken) author action (effect content (Author author) (Act action)) (reply content (Author author) (Act action))
act_planned opened content taken author action is present edits numbered within =
    let same : IsSame (graph content.edits) (graph taken) = subst (λ (es : List Edit). IsSame (graph es) (graph taken)) (sym edits) (taken_graph taken) in
    record {
      opening = content.opening;
      are_present = present;
      is_plan = plan_along (graph content.edits) (graph taken) content.opening author action (effect content (Author author) (Act action)) (reply content (Author author) (Act action)) same
          (step_is_plan content author action is numbered.0 numbered.1 within);
    }

step_planned : (opened : Graph) (content : Content) (taken : List Edit) (actor : Actor) (command : Command) → IsContent content → ArePresent opened content.opening → content.edits ≡ with_edits taken []
    → CanBePlanned actor command → IsPlanned opened (graph taken) actor command (effect content actor command) (reply content actor command)
step_planned opened content taken (Author author) (Act action) is present edits can = act_planned opened content taken author action is present edits can.0 can.1
step_planned opened content taken (Send number) (Take piece bytes sent) is present edits can = (refl, refl)
step_planned opened content taken actor command is present edits can = absurd can

-- what was taken before a step, and its edits
taken_on : (content : Content) (taken edits : List Edit) → content.edits ≡ with_edits taken [] → (with_taken edits content).edits ≡ with_edits (taken ++ edits) []
taken_on content taken edits is = ap (with_edits edits) is ∙ sym (with_edits-append taken edits [])

pub steps_planned : (opened : Graph) (content : Content) (taken : List Edit) (journal : Entries Content) → IsContent content → ArePresent opened content.opening → content.edits ≡ with_edits taken []
    → AllByRecursion (λ entry. CanBePlanned entry.actor entry.command) journal → AreSteps after effect reply content journal → ArePlanned opened taken journal
steps_planned opened content taken [] is present edits can steps = tt
steps_planned opened content taken (entry ∷ entries) is present edits can steps =
    let own : List Edit = effect content entry.actor entry.command in
    let plan = step_planned opened content taken entry.actor entry.command is present edits can.0 in (
      subst (λ (es : List Edit). IsPlanned opened (graph taken) entry.actor entry.command es entry.reply) (sym steps.0)
          (subst (λ (a : Answer). IsPlanned opened (graph taken) entry.actor entry.command own a) (sym steps.1) plan),
      subst (λ (es : List Edit). ArePlanned opened (taken ++ es) entries) (sym steps.0)
          (steps_planned opened (with_taken own content) (taken ++ own) entries (content_taken content own is) present (taken_on content taken own edits) can.1 steps.2),
    )

pub journal_taken : (content : Content) (taken : List Edit) (journal : Entries Content) → content.edits ≡ with_edits taken [] → AreSteps after effect reply content journal
    → (machine_after after content journal).edits ≡ with_edits (taken ++ edits_of journal) []
journal_taken content taken [] is steps = is ∙ ap (λ (es : List Edit). with_edits es []) (sym (append-nil taken))
journal_taken content taken (entry ∷ entries) is steps =
    let own : List Edit = effect content entry.actor entry.command in
    journal_taken (with_taken own content) (taken ++ own) entries (taken_on content taken own is) steps.2
    ∙ ap (λ (es : List Edit). with_edits es []) (append_assoc taken own (edits_of entries) ∙ ap (λ (es : List Edit). taken ++ (es ++ edits_of entries)) (sym steps.0))
