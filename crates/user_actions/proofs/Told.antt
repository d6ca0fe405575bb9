-- What is told by the lists of a graph is the plan on that graph.
use Rattle.std.proofs.Common.{ℕ, List, sym, subst}
use Rattle.std.specs.Prelude.{Result, Ok, Err, IfOk, IfErr}
use Rattle.grove_edits.specs.declared.edge.Edge.{Edge}
use Rattle.grove_edits.specs.declared.action.Action.{Action}
use Rattle.grove_edits.specs.declared.action.Action.TheVariants.{Construct}
use Rattle.grove_edits.specs.Graph.{Graph}
use Rattle.graph_words.specs.Live.{IsInEdgeOrder}
use Rattle.user_actions.specs.declared.planned.Plan.{Plan}
use Rattle.user_actions.specs.declared.planned.PlanFault.{PlanFault}
use Rattle.user_actions.specs.declared.planned.PlanFault.TheVariants.{Refused, NoMemory}
use Rattle.user_actions.specs.Lists.{GraphLists, AreListsOf, IsFinite}
use Rattle.user_actions.specs.Plan.{IsPlan}
use Rattle.user_actions.specs.After.{IsAccepted}
use Rattle.user_actions.specs.Actions.{answer_of}
use Rattle.user_actions.specs.Planned.{IsRefusal, TellsPlan}
use Rattle.user_actions.proofs.OnePlan.{plan_from_made, plan_from_fault}
use Rattle.user_actions.proofs.SomeLists.{lists_from, lists_are}

accepted_is : (lists : GraphLists) (author : ℕ) (action : Action) → IsAccepted (answer_of lists author action)
accepted_is lists author (Construct place ctor) = tt
accepted_is lists author _ = tt

told_of : (g : Graph) (lists : GraphLists) → AreListsOf g lists → (opening : List Edge) (author : ℕ) (action : Action) → IsInEdgeOrder opening → (r : Result Plan PlanFault) → TellsPlan lists opening author action r
    → IfOk r (λ p. IsPlan g opening author action p.edits p.answer) × IfOk r (λ p. IsAccepted p.answer) × IfErr r (λ fault. IsRefusal g opening author action fault)
told_of g lists of opening author action order (Ok p) tells =
    (plan_from_made g lists opening author action p.edits p.answer order of tells, subst IsAccepted (sym tells.answer_is) (accepted_is lists author action), tt)
told_of g lists of opening author action order (Err (Refused fault)) tells = (tt, tt, plan_from_fault g lists opening author action fault order of tells)
told_of g lists of opening author action order (Err NoMemory) tells = (tt, tt, tt)

pub plan_told : (g : Graph) (opening : List Edge) (author : ℕ) (action : Action) → IsFinite g → IsInEdgeOrder opening → (r : Result Plan PlanFault)
    → ((lists : GraphLists) → AreListsOf g lists → TellsPlan lists opening author action r)
    → IfOk r (λ p. IsPlan g opening author action p.edits p.answer) × IfOk r (λ p. IsAccepted p.answer) × IfErr r (λ fault. IsRefusal g opening author action fault)
plan_told g opening author action finite order r tells =
    let lists = lists_from g finite.0 finite.1 in
    let of = lists_are g finite.0 finite.1 in
    told_of g lists of opening author action order r (tells lists of)
