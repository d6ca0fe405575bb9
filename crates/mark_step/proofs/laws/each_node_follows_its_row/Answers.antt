use Rattle.mark_step.proofs.NodeLemmas.{settled_by_row, demanded_by_row}
use Rattle.mark_step.proofs.laws.each_node_follows_its_row.Goals as goal

pub returns-clause-settled : goal.returns-clause-settled
returns-clause-settled c = settled_by_row

pub returns-clause-demanded : goal.returns-clause-demanded
returns-clause-demanded c = demanded_by_row
