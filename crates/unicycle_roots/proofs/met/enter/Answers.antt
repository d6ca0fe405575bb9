use Rattle.unicycle_roots.proofs.Keys.{numbers_from_insert}
use Rattle.unicycle_roots.proofs.met.enter.Goals as goal

pub returns : goal.returns
returns c v = numbers_from_insert c.args.vertex.now v c.args.number c.args.met.now.entries c.insert.new.self.entries (c.in_ok-insert.ensures.updates.0 v)
