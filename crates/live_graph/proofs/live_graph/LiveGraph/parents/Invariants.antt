use Rattle.std.proofs.Common.{◌≡◌, ◌+◌}
use Rattle.live_graph.proofs.live_graph.LiveGraph.parents.Given as goal

abbrev pub invariant-loop-parent : goal.invariant-loop-parent
invariant-loop-parent g l = l.steps ≡ l.fn.steps + 1 + l._parent
