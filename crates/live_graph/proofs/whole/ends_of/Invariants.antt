use Rattle.live_graph.proofs.Ends.{HasEndsSoFar}
use Rattle.live_graph.proofs.whole.ends_of.Given as goal

-- the vertices are the root and the ends of the entries so far
abbrev pub invariant-loop-number : goal.invariant-loop-number
invariant-loop-number l = HasEndsSoFar l.edges.entries l.number l.vertices.items
