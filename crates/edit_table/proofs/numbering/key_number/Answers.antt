use Rattle.edit_table.proofs.Keys.{inserted_again}
use Rattle.edit_table.proofs.numbering.key_number.Goals as goal

pub returns-then-is_at-clause-keys : goal.returns-then-is_at-clause-keys
returns-then-is_at-clause-keys c = inserted_again c.args.keys.now.keys c.args.likely c.args.key (c.is_at.ensures c.if-is_at.true)
