use Rattle.std.proofs.Common.{◌∙◌}
use Rattle.unicycle_roots.proofs.Keys.{lookup_is_met_by}
use Rattle.unicycle_roots.proofs.met.met_by.Goals as goal

pub returns : goal.returns
returns c = c.copied.ensures ∙ c.get.ensures.value ∙ lookup_is_met_by c.args.met.now.entries c.args.vertex.now
