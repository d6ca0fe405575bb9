use Rattle.graph_table.proofs.Ends.{IsWhole, whole_in_view}
use Rattle.graph_table.proofs.graph_table.GraphTable.number_count.Goals as goal

whole : (c : goal.After-vertex_count) → IsWhole c.args.self.now
whole c = whole_in_view c.self.inside.table c.args.self.now c.self.view_is c.vertex_count.ensures.vertices

pub returns-clause-once : goal.returns-clause-once
returns-clause-once c = (whole c).once

pub returns-clause-each : goal.returns-clause-each
returns-clause-each c = (whole c).each

pub returns-clause-no_other : goal.returns-clause-no_other
returns-clause-no_other c = (whole c).no_other
