use Rattle.std.proofs.Common.{rules}
use Rattle.edit_table.proofs.Tables.{number_fits}
use Rattle.edit_table.proofs.edit_table.EditTable.vertex.Goals as goal

pub overflow_cast-number : goal.overflow_cast-number
overflow_cast-number c =
    let fits = number_fits c.self.inside.ctors.keys c.self.inside.keys.items c.self.inside.records.items c.args.self.now c.self.view_is c.self.invariant c.args.number c.requires in
    search rules
