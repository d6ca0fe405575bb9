use Rattle.edge_lists.proofs.CallerLemmas.{in_edge_order-by_edge, by_edge-in_edge_order, with_edge_by-edge_cmp}
use Rattle.edge_lists.proofs.laws.lists_by_edge_are_in_edge_order.Goals as goal

pub returns : goal.returns
returns c = record { in_order = in_edge_order-by_edge; no_other = by_edge-in_edge_order; put = with_edge_by-edge_cmp }
