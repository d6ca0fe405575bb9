use Rattle.graph_table.proofs.Lives.{are_live}
use Rattle.graph_table.proofs.graph_table.GraphTable.of.Goals as goal

pub returns-clause-live : goal.returns-clause-live
returns-clause-live c = are_live c.args.table.edits c.requires

pub invariant_of-result : goal.invariant_of-result
invariant_of-result c = record { in_order = c.requires; links_are = c.in_ok-around.ensures.links; kept = c.in_ok-around.ensures.around }
