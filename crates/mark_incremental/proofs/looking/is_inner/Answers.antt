-- A vertex stands in the tree of another where it has one parent and is not the root of a cycle.
use Rattle.std.proofs.Common.{not, ap, ◌∙◌}
use Rattle.live_graph.specs.Live.{live}
use Rattle.mark_incremental.proofs.Found.{one_by_root}
use Rattle.mark_incremental.proofs.looking.is_inner.Goals as goal

pub returns-in-One-clause-inner : goal.returns-in-One-clause-inner
returns-in-One-clause-inner g c = ap not c.holds.ensures ∙ one_by_root (live c.args.graph.now) c.args.roots.now c.requires c.args.vertex.now c.in-One.field-0 c.in-One.ensures.least
