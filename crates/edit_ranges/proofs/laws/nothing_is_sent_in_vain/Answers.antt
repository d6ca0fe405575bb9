use Rattle.edit_ranges.proofs.Joined.{none_in_vain}
use Rattle.edit_ranges.proofs.laws.nothing_is_sent_in_vain.Goals as goal

pub returns : goal.returns
returns c = none_in_vain
