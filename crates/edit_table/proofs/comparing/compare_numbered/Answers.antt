use Rattle.edit_table.specs.Keys.{vertices_of}
use Rattle.edit_table.proofs.Orders.{same_number}
use Rattle.edit_table.proofs.comparing.compare_numbered.Goals as goal

pub returns-then-a-b : goal.returns-then-a-b
returns-then-a-b c = same_number (vertices_of c.args.ranked.now.ctors.now c.args.keys.now) c.args.a c.args.b c.if-a-b.true
