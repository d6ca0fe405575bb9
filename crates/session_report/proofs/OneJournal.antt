-- A journal follows from who asked what in it, and from the edits that were taken before.
use Rattle.std.proofs.Common.{◌≡◌, ℕ, List, [], ◌∷◌, ◌++◌, map, refl, sym, ap, subst, ◌∙◌}
use Rattle.grove_edits.specs.declared.edge.Edge.{Edge}
use Rattle.grove_edits.specs.declared.edit.Edit.{Edit}
use Rattle.grove_edits.specs.Graph.{Graph, graph}
use Rattle.grove_edits.specs.declared.action.Action.{Action}
use Rattle.grove_edits.specs.declared.actor.Actor.{Actor}
use Rattle.grove_edits.specs.declared.actor.Actor.TheVariants.{Author, Send}
use Rattle.grove_edits.specs.declared.answer.Answer.{Answer}
use Rattle.grove_edits.specs.declared.command.Command.{Command}
use Rattle.grove_edits.specs.declared.command.Command.TheVariants.{Act, Take}
use Rattle.user_actions.specs.Plan.{IsPlan}
use Rattle.user_actions.proofs.OnePlan.{one_present, one_plan}
use Rattle.shared_replica.specs.declared.journal.Entry.{Entry}
use Rattle.session_report.specs.Journal.{Entries, IsPlanNow, IsPlanned, ArePlanned, asked}

-- an action has one plan
one_plan_now : (opened now : Graph) (author : ℕ) (action : Action) (edits others : List Edit) (answer reply : Answer)
    → IsPlanNow opened now author action edits answer → IsPlanNow opened now author action others reply → (edits ≡ others) × (answer ≡ reply)
one_plan_now opened now author action edits others answer reply h k =
    let opening : h.opening ≡ k.opening = one_present opened h.opening k.opening h.are_present k.are_present in
    one_plan now k.opening author action edits others answer reply (subst (λ (es : List Edge). IsPlan now es author action edits answer) opening h.is_plan) k.is_plan

-- and so has a command
one_planned : (opened now : Graph) (actor : Actor) (command : Command) (edits others : List Edit) (answer reply : Answer)
    → IsPlanned opened now actor command edits answer → IsPlanned opened now actor command others reply → (edits ≡ others) × (answer ≡ reply)
one_planned opened now (Author author) (Act action) edits others answer reply h k = one_plan_now opened now author action edits others answer reply h k
one_planned opened now (Send number) (Take piece bytes taken) edits others answer reply h k = (h.0 ∙ sym k.0, h.1 ∙ sym k.1)
one_planned opened now actor command edits others answer reply h k = absurd h

module _ {M : Type 0} where
  abbrev made : Actor → Command → List Edit → Answer → Entry M Command (List Edit) Answer
  made actor command edits answer = record { actor = actor; command = command; effect = edits; reply = answer }

  entry_from_fields : (a b : Entry M Command (List Edit) Answer) → a.actor ≡ b.actor → a.command ≡ b.command → a.effect ≡ b.effect → a.reply ≡ b.reply → a ≡ b
  entry_from_fields a b actor command edits answer =
      ap (λ (x : Actor). made x a.command a.effect a.reply) actor
      ∙ ap (λ (x : Command). made b.actor x a.effect a.reply) command
      ∙ ap (λ (x : List Edit). made b.actor b.command x a.reply) edits
      ∙ ap (λ (x : Answer). made b.actor b.command b.effect x) answer

  pub one_journal : (opened : Graph) (opening : List Edit) (journal other : Entries M)
      → ArePlanned opened opening journal → ArePlanned opened opening other → map asked journal ≡ map asked other → journal ≡ other
  one_journal opened opening [] [] h k same = refl
  one_journal opened opening [] (f ∷ fs) h k same = cc
  one_journal opened opening (e ∷ es) [] h k same = cc
  one_journal opened opening (e ∷ es) (f ∷ fs) h k same =
      let first : asked e ≡ asked f = cc in
      let actor : e.actor ≡ f.actor = ap (λ (c : Actor × Command). c.0) first in
      let command : e.command ≡ f.command = ap (λ (c : Actor × Command). c.1) first in
      let rest : map asked es ≡ map asked fs = cc in
      let plan = one_planned opened (graph opening) f.actor f.command e.effect f.effect e.reply f.reply
      (subst (λ (a : Actor). IsPlanned opened (graph opening) a f.command e.effect e.reply) actor
      (subst (λ (c : Command). IsPlanned opened (graph opening) e.actor c e.effect e.reply) command h.0)) k.0 in
      ap (λ (g : Entry M Command (List Edit) Answer). g ∷ es) (entry_from_fields e f actor command plan.0 plan.1)
      ∙ ap (λ (gs : Entries M). f ∷ gs) (one_journal opened (opening ++ f.effect) es fs
      (subst (λ (edits : List Edit). ArePlanned opened (opening ++ edits) es) plan.0 h.1) k.1 rest)
