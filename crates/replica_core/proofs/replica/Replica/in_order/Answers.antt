use Rattle.user_actions.specs.Flags.{opening_edges}
use Rattle.replica_core.proofs.Keeping.{content_seen, canonical_seen, list_seen}
use Rattle.replica_core.proofs.replica.Replica.in_order.Goals as goal

pub returns-in_err-in_order-clause-content : goal.returns-in_err-in_order-clause-content
returns-in_err-in_order-clause-content c = content_seen c.self.inside.graph (opening_edges c.self.inside.graph c.self.inside.opening) c.args.self.now c.self.invariant.graph.kept c.self.view_is

pub returns-in_err-in_order-clause-canonical : goal.returns-in_err-in_order-clause-canonical
returns-in_err-in_order-clause-canonical c = canonical_seen c.self.inside.graph (opening_edges c.self.inside.graph c.self.inside.opening) c.args.self.now c.self.invariant.graph.kept c.self.view_is

pub returns-clause-list : goal.returns-clause-list
returns-clause-list c = list_seen c.self.inside.graph (opening_edges c.self.inside.graph c.self.inside.opening) c.args.self.now c.self.invariant.graph.kept c.self.view_is c.in_ok-in_order.field-0 c.in_ok-in_order.ensures.canonical

pub returns-clause-content : goal.returns-clause-content
returns-clause-content c = content_seen c.self.inside.graph (opening_edges c.self.inside.graph c.self.inside.opening) c.args.self.now c.self.invariant.graph.kept c.self.view_is

pub returns-clause-canonical : goal.returns-clause-canonical
returns-clause-canonical c = canonical_seen c.self.inside.graph (opening_edges c.self.inside.graph c.self.inside.opening) c.args.self.now c.self.invariant.graph.kept c.self.view_is
