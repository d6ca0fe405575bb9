use Rattle.std.proofs.Common.{sym, ◌∙◌}
use Rattle.live_graph.proofs.Names.{pushed_named}
use Rattle.live_graph.proofs.by_name.push_named.Goals as goal

pub returns : goal.returns
returns c =
    pushed_named c.args.edges.now c.args.name c.args.number c.args.found.now.items c.push.new.self.items c.edge.result
    (sym c.is_named.ensures ∙ c.if-not-is_named.false) c.edge.ensures c.in_ok-push.ensures.items
