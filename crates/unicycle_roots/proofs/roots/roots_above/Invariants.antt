use Rattle.std.proofs.Common.{◌+◌, ◌*◌, ◌≤◌, length}
use Rattle.graph_words.specs.Met.{unmet}
use Rattle.graph_words.proofs.Found.{AreFound}
use Rattle.unicycle_roots.proofs.roots.roots_above.Given as goal

abbrev pub invariant-loop-number : goal.invariant-loop-number
invariant-loop-number g l = record {
  found : AreFound (g.P.ParentOf.live l.parents) l.vertices l.roots.keys l.met.entries l.number;
  ticks : l.steps + 4 * unmet (g.P.ParentOf.live l.parents) l.met.entries ≤ l.fn.steps + 4 * length (g.P.ParentOf.live l.parents) + 3 * l.number;
}
