-- The edge is among all exactly where it is among those that are left.
use Rattle.std.proofs.Common.{◌≡◌, length}
use Rattle.graph_words.specs.Live.{holds_edge}
use Rattle.mark_incremental.proofs.conflict.is_absent.Given as goal

abbrev pub invariant-loop-child : goal.invariant-loop-child
invariant-loop-child l = holds_edge l.edge l.initial.left ≡ holds_edge l.edge l.left

abbrev pub decreases-loop-child : goal.decreases-loop-child
decreases-loop-child l = length l.left
