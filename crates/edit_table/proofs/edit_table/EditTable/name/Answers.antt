use Rattle.std.proofs.Common.{ap}
use Rattle.grove_edits.specs.declared.edge.Edge.{Edge}
use Rattle.edit_table.proofs.Tables.{edge_read}
use Rattle.edit_table.proofs.edit_table.EditTable.name.Goals as goal

pub returns : goal.returns
returns c = ap (λ (e : Edge). e.name) (edge_read c.self.inside.ctors.keys c.self.inside.keys.items c.self.inside.records.items c.args.self.now c.self.view_is c.self.invariant c.args.index c.index.result.now c.requires c.index.ensures)
