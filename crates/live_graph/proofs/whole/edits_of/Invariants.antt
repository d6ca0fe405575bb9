use Rattle.std.proofs.Common.{take}
use Rattle.live_graph.proofs.Listing.{MakesSoFar}
use Rattle.live_graph.proofs.whole.edits_of.Given as goal

-- the edits make what the numbers so far say
abbrev pub invariant-loop-number : goal.invariant-loop-number
invariant-loop-number l = MakesSoFar l.edges (take l.number-index l.number-items) l.edits
