use Rattle.user_actions.proofs.PlanLaws.{live_along}
use Rattle.user_actions.proofs.SomePlan.{well_formed_along, opening_known}
use Rattle.user_actions.proofs.laws.graphs_of_edits_can_be_planned_on.Goals as goal

pub returns-clause-well_formed : goal.returns-clause-well_formed
returns-clause-well_formed c = well_formed_along

pub returns-clause-opening : goal.returns-clause-opening
returns-clause-opening c = opening_known

pub returns-clause-live : goal.returns-clause-live
returns-clause-live c = live_along
