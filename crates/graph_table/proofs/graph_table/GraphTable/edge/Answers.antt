use Rattle.std.proofs.Common.{ap, length, arith}
use Rattle.graph_table.specs.Table.{Table}
use Rattle.graph_table.proofs.graph_table.GraphTable.edge.Goals as goal

pub overflow_cast-index : goal.overflow_cast-index
overflow_cast-index c = omega (arith, c.requires, ap (λ (table : Table). length table.edits) c.self.view_is, c.self.invariant.links_are.few)
