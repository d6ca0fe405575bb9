use Rattle.std.proofs.Common.{◌+◌, ◌*◌, ◌-◌}
use Rattle.graph_words.proofs.Up.{walk_len}
use Rattle.graph_words.proofs.Meetings.{IsMeeting}
use Rattle.unicycle_roots.proofs.met.walk_up.Given as goal

abbrev pub invariant-loop-walk : goal.invariant-loop-walk
invariant-loop-walk g l = IsMeeting (g.P.ParentOf.live l.parents) l.start l.at l.number l.fn.met.entries l.met.entries l.fn.steps l.steps

abbrev pub decreases-loop-walk : goal.decreases-loop-walk
decreases-loop-walk g l = l.fn.steps + 2 * (walk_len (g.P.ParentOf.live l.parents) l.start + 1) - l.steps
