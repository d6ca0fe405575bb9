use Rattle.edge_lists.proofs.CallerLemmas.{known-kept, edges-kept}
use Rattle.edge_lists.proofs.laws.listed_edges_stay.Goals as goal

pub returns : goal.returns
returns c = record { known = known-kept; edges = edges-kept }
