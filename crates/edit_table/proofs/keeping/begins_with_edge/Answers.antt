use Rattle.std.proofs.Common.{sym}
use Rattle.edit_table.proofs.KeptRecords.{begins_first}
use Rattle.edit_table.proofs.keeping.begins_with_edge.Goals as goal

pub returns-in-Some : goal.returns-in-Some
returns-in-Some c = begins_first c.args.edit.now c.in-Some.first.now c.args.records.now c.have_same_edge.result c.have_same_edge.ensures (sym c.in-Some.ensures.value)
