use Rattle.user_actions.proofs.live_view.LiveViewPlanView.greatest.Goals as goal

pub returns : goal.returns
returns c = record { no_greater = c.greatest.ensures.no_greater; reached = c.greatest.ensures.reached }
