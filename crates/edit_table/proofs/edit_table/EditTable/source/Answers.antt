use Rattle.edit_table.proofs.Tables.{source_read}
use Rattle.edit_table.proofs.edit_table.EditTable.source.Goals as goal

pub returns-clause-source : goal.returns-clause-source
returns-clause-source c = source_read c.self.inside.ctors.keys c.self.inside.keys.items c.self.inside.records.items c.args.self.now c.self.view_is c.self.invariant c.args.index c.index.result.now c.requires c.index.ensures
