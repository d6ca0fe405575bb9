use Rattle.kept_records.proofs.Short.{cycles_stay_apart, cycles_stay_shared}
use Rattle.kept_records.proofs.laws.cycles_stay_where_the_target_is_apart.Goals as goal

pub returns : goal.returns
returns c = record { apart = cycles_stay_apart; headed = cycles_stay_shared }
