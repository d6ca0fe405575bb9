use Rattle.std.proofs.Common.{◌≡◌, ◌+◌}
use Rattle.live_graph.proofs.live_graph.LiveGraph.children.Given as goal

abbrev pub invariant-loop-child : goal.invariant-loop-child
invariant-loop-child g l = l.steps ≡ l.fn.steps + 1 + l._child
