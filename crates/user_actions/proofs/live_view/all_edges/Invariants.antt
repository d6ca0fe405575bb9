use Rattle.std.proofs.Common.{◌≡◌, take}
use Rattle.user_actions.proofs.live_view.all_edges.Given as goal

abbrev pub invariant-loop-index : goal.invariant-loop-index
invariant-loop-index l = l.list.items ≡ take l.index l.edges
