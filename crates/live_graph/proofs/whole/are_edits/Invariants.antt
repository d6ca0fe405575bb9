use Rattle.std.proofs.Common.{◌≤◌, length, take}
use Rattle.live_graph.proofs.Listing.{MakesSoFar}
use Rattle.live_graph.proofs.whole.are_edits.Given as goal

-- the edits so far make what the numbers so far say
abbrev pub invariant-loop-number : goal.invariant-loop-number
invariant-loop-number l = (l.at ≤ length l.edits) × MakesSoFar l.edges (take l.number-index l.number-items) (take l.at l.edits)
