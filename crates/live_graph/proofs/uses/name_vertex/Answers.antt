use Rattle.std.proofs.Common.{sym, subst}
use Rattle.live_graph.specs.Uses.{AreUses}
use Rattle.live_graph.proofs.Counts.{uses_next}
use Rattle.live_graph.proofs.uses.name_vertex.Goals as goal

pub returns-clause-uses : goal.returns-clause-uses
returns-clause-uses c = subst (AreUses c.args.edges.now) (sym c.in_ok-push.ensures.items) (uses_next c.args.edges.now c.args.uses.now.items c.requires.next c.requires.uses)
