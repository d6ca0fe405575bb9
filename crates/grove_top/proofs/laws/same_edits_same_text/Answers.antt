use Rattle.grove_top.proofs.OneDue.{answered_alike, answered_across}
use Rattle.grove_top.proofs.laws.same_edits_same_text.Goals as goal

pub returns : goal.returns
returns c = record { one_version = answered_alike; any_version = answered_across }
