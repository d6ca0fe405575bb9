use Rattle.edit_ranges.proofs.Joined.{only_its_edits, lacking_ascends, nothing_invented}
use Rattle.edit_ranges.proofs.laws.nothing_is_invented.Goals as goal

pub returns-clause-edits : goal.returns-clause-edits
returns-clause-edits c = only_its_edits

pub returns-clause-in_order : goal.returns-clause-in_order
returns-clause-in_order c = lacking_ascends

pub returns-clause-below : goal.returns-clause-below
returns-clause-below c = nothing_invented
