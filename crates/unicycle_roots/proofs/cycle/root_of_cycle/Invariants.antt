use Rattle.std.proofs.Common.{◌+◌, ◌*◌, ◌-◌}
use Rattle.graph_words.proofs.Up.{walk_len}
use Rattle.graph_words.proofs.Around.{IsAround}
use Rattle.unicycle_roots.proofs.cycle.root_of_cycle.Given as goal

abbrev pub invariant-loop-above : goal.invariant-loop-above
invariant-loop-above g l = IsAround (g.P.ParentOf.live l.parents) l.entry l.at l.least l.fn.steps l.steps

abbrev pub decreases-loop-above : goal.decreases-loop-above
decreases-loop-above g l = l.fn.steps + 2 * walk_len (g.P.ParentOf.live l.parents) l.entry - l.steps
