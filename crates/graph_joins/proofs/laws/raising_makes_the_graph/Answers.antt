use Rattle.graph_joins.proofs.Raises.{raised_after, raised_all, raised_from_empty}
use Rattle.graph_joins.proofs.laws.raising_makes_the_graph.Goals as goal

pub returns-clause-appended : goal.returns-clause-appended
returns-clause-appended c = raised_after

pub returns-clause-joined : goal.returns-clause-joined
returns-clause-joined c = raised_all

pub returns-clause-from_empty : goal.returns-clause-from_empty
returns-clause-from_empty c = raised_from_empty
