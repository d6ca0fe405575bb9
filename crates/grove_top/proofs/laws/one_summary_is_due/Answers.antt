use Rattle.grove_top.proofs.OneGenerated.{one_generated_due}
use Rattle.grove_top.proofs.laws.one_summary_is_due.Goals as goal

pub returns : goal.returns
returns c = one_generated_due
