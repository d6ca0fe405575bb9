use Rattle.graph_table.proofs.Links.{edge_told}
use Rattle.graph_table.proofs.graph_table.GraphTable.name.Goals as goal

pub returns : goal.returns
returns c = (edge_told c.self.inside.table c.args.self.now c.self.inside.links.items c.args.index c.index.result.now c.self.view_is c.self.invariant.links_are c.requires c.index.ensures).name
