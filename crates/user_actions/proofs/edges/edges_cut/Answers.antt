use Rattle.std.proofs.Common.{◌≡◌, List, filter, sym, ap, ◌∙◌}
use Rattle.grove_edits.specs.declared.edge.Edge.{Edge}
use Rattle.graph_words.specs.Live.{holds_edge}
use Rattle.user_actions.specs.Names.{edges_named}
use Rattle.user_actions.specs.Checks.{else_edges}
use Rattle.user_actions.proofs.LiveEdges.{named_present_is, opened_is, cut_known}
use Rattle.user_actions.proofs.edges.edges_cut.Goals as goal

pub returns-clause-cut : goal.returns-clause-cut
returns-clause-cut g c lists of =
    let named = c.in_ok-named.ensures.named in
    let os : c.in_ok-opened.opened.items ≡ filter (λ e. holds_edge e (g.V.PlanView.opening c.args.view.now)) c.in_ok-named.named.items = c.in_ok-opened.ensures.opened ∙ ap (filter (λ e. holds_edge e (g.V.PlanView.opening c.args.view.now))) c.deref.ensures.value in
    c.opened_or_named.ensures ∙ ap (λ (xs : List Edge). else_edges xs c.in_ok-named.named.items) (os ∙ opened_is (g.V.PlanView.states c.args.view.now) (g.V.PlanView.opening c.args.view.now) c.requires.opening c.requires.in_order c.args.name c.in_ok-named.named.items named)
    ∙ ap (else_edges (edges_named c.args.name (g.V.PlanView.opening c.args.view.now))) (named_present_is (g.V.PlanView.states c.args.view.now) lists of c.args.name c.in_ok-named.named.items named)

pub returns-clause-known : goal.returns-clause-known
returns-clause-known g c e held =
    let os : c.in_ok-opened.opened.items ≡ filter (λ e. holds_edge e (g.V.PlanView.opening c.args.view.now)) c.in_ok-named.named.items = c.in_ok-opened.ensures.opened ∙ ap (filter (λ e. holds_edge e (g.V.PlanView.opening c.args.view.now))) c.deref.ensures.value in
    cut_known (g.V.PlanView.states c.args.view.now) (g.V.PlanView.opening c.args.view.now) c.args.name c.in_ok-named.named.items c.in_ok-opened.opened.items c.in_ok-named.ensures.named os e (ap (holds_edge e) (sym c.opened_or_named.ensures) ∙ held)
