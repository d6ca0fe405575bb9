use Rattle.std.proofs.Common.{◌^◌, unwrap_or}
use Rattle.graph_words.specs.Names.{IsNameOfEdge}
use Rattle.live_graph.proofs.Maxima.{AreBefore}
use Rattle.live_graph.proofs.greatest.greatest_of_edges.Given as goal

-- each name by the author is before the counters that were looked at
abbrev pub invariant-loop-counter : goal.invariant-loop-counter
invariant-loop-counter l = AreBefore (IsNameOfEdge l.edges.entries) l.author l.before

abbrev pub decreases-loop-counter : goal.decreases-loop-counter
decreases-loop-counter l = unwrap_or l.before (2 ^ 64)
