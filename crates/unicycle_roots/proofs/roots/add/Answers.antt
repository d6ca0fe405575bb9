use Rattle.unicycle_roots.proofs.Keys.{keys_from_insert}
use Rattle.unicycle_roots.proofs.roots.add.Goals as goal

pub returns : goal.returns
returns c v = keys_from_insert c.args.root v c.args.roots.now.keys c.insert.new.self.keys (c.in_ok-insert.ensures.updates.0 v)
