use Rattle.live_graph.proofs.Once.{vertices_in_order, same_vertices}
use Rattle.mark_incremental.proofs.changed.sort_vertices.Goals as goal

pub returns-clause-in_order : goal.returns-clause-in_order
returns-clause-in_order c = vertices_in_order c.args.vertices.now.items c.sort_unstable.new.self.items c.dedup.new.self.items c.dedup.ensures.filtered c.sort_unstable.ensures.sorted

pub returns-clause-same : goal.returns-clause-same
returns-clause-same c = same_vertices c.args.vertices.now.items c.sort_unstable.new.self.items c.dedup.new.self.items c.dedup.ensures.filtered c.sort_unstable.ensures.permutation
