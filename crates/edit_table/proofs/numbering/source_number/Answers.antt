use Rattle.edit_table.proofs.Keys.{inserted_again}
use Rattle.edit_table.proofs.numbering.source_number.Goals as goal

pub returns-clause-keys : goal.returns-clause-keys
returns-clause-keys c = inserted_again c.args.keys.now.keys c.in-Some.number c.args.key.now c.in-Some.ensures
