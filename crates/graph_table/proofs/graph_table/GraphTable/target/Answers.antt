use Rattle.graph_table.specs.Parts.{TellsEdge}
use Rattle.graph_table.proofs.Links.{edge_told}
use Rattle.graph_table.proofs.graph_table.GraphTable.target.Goals as goal

told : (c : goal.After-row_known-1) → TellsEdge c.args.self.now c.args.index c.index.result.now
told c = edge_told c.self.inside.table c.args.self.now c.self.inside.links.items c.args.index c.index.result.now c.self.view_is c.self.invariant.links_are c.requires c.index.ensures

pub returns-clause-number : goal.returns-clause-number
returns-clause-number c = (told c).target.0

pub returns-clause-target : goal.returns-clause-target
returns-clause-target c = (told c).target.1
