use Rattle.kept_records.proofs.OneSize.{near_in_graphs, near_by_edges}
use Rattle.kept_records.proofs.laws.vertices_that_came_are_near.Goals as goal

pub returns : goal.returns
returns c = record { in_graphs = near_in_graphs; by_edges = near_by_edges }
