use Rattle.graph_joins.proofs.Merges.{merged_of_edits, merged_list}
use Rattle.graph_joins.proofs.laws.merging_is_a_join.Goals as goal

pub returns-clause-of_edits : goal.returns-clause-of_edits
returns-clause-of_edits c = merged_of_edits

pub returns-clause-one_list : goal.returns-clause-one_list
returns-clause-one_list c = merged_list
