use Rattle.std.proofs.Common.{◌≡◌, filter, take}
use Rattle.graph_words.specs.Live.{holds_edge}
use Rattle.user_actions.proofs.edges.opened_of.Given as goal

abbrev pub invariant-loop-edge : goal.invariant-loop-edge
invariant-loop-edge g l = l.opened.items ≡ filter (λ e. holds_edge e (g.V.PlanView.opening l.view)) (take l.edge-index l.edges)
