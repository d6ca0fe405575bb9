use Rattle.live_graph.proofs.Once.{edges_in_order, same_edges}
use Rattle.live_graph.proofs.by_name.sort_edges.Goals as goal

pub returns-clause-in_order : goal.returns-clause-in_order
returns-clause-in_order c = edges_in_order c.args.edges.now.items c.sort_unstable.new.self.items c.dedup.new.self.items c.dedup.ensures.filtered c.sort_unstable.ensures.sorted

pub returns-clause-same : goal.returns-clause-same
returns-clause-same c = same_edges c.args.edges.now.items c.sort_unstable.new.self.items c.dedup.new.self.items c.dedup.ensures.filtered c.sort_unstable.ensures.permutation
