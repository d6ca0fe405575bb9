use Rattle.std.proofs.Common.{subst}
use Rattle.edge_lists.specs.Lists.{AreEdgeNumbers}
use Rattle.live_graph.proofs.Numbers.{known_first}
use Rattle.live_graph.proofs.walk_up.only_source_of.Goals as goal

pub source-requires : goal.source-requires
source-requires c =
    let edges = c.args.edges.now in
    known_first edges c.in_ok-number.number c.in_ok-number.others (subst (AreEdgeNumbers edges) c.in_ok-number.ensures.both c.requires)
