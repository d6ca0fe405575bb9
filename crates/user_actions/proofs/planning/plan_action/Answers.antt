use Rattle.std.proofs.Common.{◌≡◌, ℕ, List, sym, subst}
use Rattle.std.specs.Prelude.{Result, Ok, Err, IsErrAnd}
use Rattle.grove_edits.specs.declared.edge.Edge.{Edge}
use Rattle.grove_edits.specs.declared.action.Action.{Action}
use Rattle.user_actions.specs.declared.planned.Plan.{Plan}
use Rattle.user_actions.specs.declared.planned.PlanFault.{PlanFault}
use Rattle.user_actions.specs.declared.planned.PlanFault.TheVariants.{Refused, NoMemory}
use Rattle.user_actions.specs.Lists.{GraphLists}
use Rattle.user_actions.specs.Planned.{TellsPlan}
use Rattle.user_actions.specs.Admitted.{TellsFound}
use Rattle.user_actions.proofs.planning.plan_action.Goals as goal

handed_on : (lists : GraphLists) (opening : List Edge) (author : ℕ) (action : Action) (r : Result Plan PlanFault) (fault : PlanFault) → IsErrAnd r (λ e. e ≡ fault)
    → TellsFound lists opening author action (Err fault) → TellsPlan lists opening author action r
handed_on lists opening author action (Ok plan) fault gives told = absurd gives
handed_on lists opening author action (Err e) fault gives told = subst (λ (f : PlanFault). TellsPlan lists opening author action (Err f)) (sym gives) (same fault told) where
  same : (f : PlanFault) → TellsFound lists opening author action (Err f) → TellsPlan lists opening author action (Err f)
  same (Refused first) is = is
  same NoMemory is = tt

pub returns-in_err-found : goal.returns-in_err-found
returns-in_err-found g c lists of =
    handed_on lists (g.V.PlanView.opening c.args.view.now) c.args.author c.args.action.now c.from_residual.result c.in_err-found.field-0.0 c.from_residual.ensures.1 (c.in_err-found.ensures.told.each lists of)
