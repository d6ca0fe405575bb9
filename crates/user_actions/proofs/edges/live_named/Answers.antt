use Rattle.std.proofs.Common.{filter, ap, ◌∙◌}
use Rattle.user_actions.specs.NamedEdges.{is_live_in}
use Rattle.user_actions.proofs.LiveEdges.{named_live_is, live_is_known}
use Rattle.user_actions.proofs.edges.live_named.Goals as goal

pub returns-clause-named : goal.returns-clause-named
returns-clause-named g c lists of =
    named_live_is (g.V.PlanView.states c.args.view.now) lists of c.args.name c.in_ok-named.named.items c.in_ok-live.live.items c.in_ok-named.ensures.named (c.in_ok-live.ensures.live ∙ ap (filter (is_live_in (g.V.PlanView.states c.args.view.now))) c.deref.ensures.value)

pub returns-clause-known : goal.returns-clause-known
returns-clause-known g c e held =
    live_is_known (g.V.PlanView.states c.args.view.now) c.args.name c.in_ok-named.named.items c.in_ok-live.live.items c.in_ok-named.ensures.named (c.in_ok-live.ensures.live ∙ ap (filter (is_live_in (g.V.PlanView.states c.args.view.now))) c.deref.ensures.value) e held
