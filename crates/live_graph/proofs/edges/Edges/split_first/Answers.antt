use Rattle.std.proofs.Common.{subst}
use Rattle.edge_lists.specs.Lists.{AreEdgeNumbers}
use Rattle.live_graph.proofs.Numbers.{known_first, known_later}
use Rattle.live_graph.proofs.edges.Edges.split_first.Goals as goal

pub invariant_of-edge : goal.invariant_of-edge
invariant_of-edge c =
    let edges = c.self.inside.edges.now in
    known_first edges c.in_ok-number.number c.in_ok-number.others (subst (AreEdgeNumbers edges) c.in_ok-number.ensures.both c.self.invariant)

pub invariant_of-edges : goal.invariant_of-edges
invariant_of-edges c =
    let edges = c.self.inside.edges.now in
    known_later edges c.in_ok-number.number c.in_ok-number.others (subst (AreEdgeNumbers edges) c.in_ok-number.ensures.both c.self.invariant)
