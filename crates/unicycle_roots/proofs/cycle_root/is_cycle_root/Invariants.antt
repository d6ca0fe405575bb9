use Rattle.std.proofs.Common.{◌+◌, ◌*◌, ◌-◌, length}
use Rattle.graph_words.specs.Walk.{walk}
use Rattle.unicycle_roots.proofs.Rounds.{IsAfterRounds}
use Rattle.unicycle_roots.proofs.cycle_root.is_cycle_root.Given as goal

abbrev pub invariant-loop-above : goal.invariant-loop-above
invariant-loop-above g l = IsAfterRounds (g.P.ParentOf.live l.parents) l.vertex l.hare l.tortoise l.fn.steps l.steps

abbrev pub decreases-loop-above : goal.decreases-loop-above
decreases-loop-above g l = l.fn.steps + 6 * length (walk (g.P.ParentOf.live l.parents) l.vertex) - l.steps
