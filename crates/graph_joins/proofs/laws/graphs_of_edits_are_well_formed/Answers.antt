use Rattle.graph_joins.proofs.Raises.{graph_is_well_formed, canonical_of_edits}
use Rattle.graph_joins.proofs.laws.graphs_of_edits_are_well_formed.Goals as goal

pub returns-clause-whole : goal.returns-clause-whole
returns-clause-whole c = graph_is_well_formed

pub returns-clause-canonical : goal.returns-clause-canonical
returns-clause-canonical c = canonical_of_edits
