use Rattle.kept_records.proofs.Short.{demand_at_top}
use Rattle.kept_records.proofs.laws.what_is_demanded_above_an_edit_stays.Goals as goal

pub returns : goal.returns
returns c = demand_at_top
