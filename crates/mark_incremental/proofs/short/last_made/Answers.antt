-- The last stands behind the others.
use Rattle.std.proofs.Common.{◌∙◌}
use Rattle.mark_incremental.proofs.ShortWalks.{last_cut}
use Rattle.mark_incremental.proofs.short.last_made.Goals as goal

pub returns : goal.returns
returns c = last_cut c.args.made.now c.copied.result (c.copied.ensures ∙ c.last.ensures.value)
