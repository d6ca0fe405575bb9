use Rattle.edit_table.proofs.Tables.{target_read}
use Rattle.edit_table.proofs.edit_table.EditTable.target.Goals as goal

pub returns-clause-target : goal.returns-clause-target
returns-clause-target c = target_read c.self.inside.ctors.keys c.self.inside.keys.items c.self.inside.records.items c.args.self.now c.self.view_is c.self.invariant c.args.index c.index.result.now c.requires c.index.ensures
