use Rattle.std.proofs.Common.{◌∙◌}
use Rattle.unicycle_roots.proofs.Keys.{any_is_stands_in}
use Rattle.unicycle_roots.proofs.roots.holds.Goals as goal

pub returns : goal.returns
returns c = c.contains.ensures ∙ any_is_stands_in c.args.roots.now.keys c.args.vertex.now
