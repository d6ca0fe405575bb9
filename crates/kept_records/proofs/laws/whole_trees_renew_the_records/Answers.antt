use Rattle.kept_records.proofs.AllMade.{all_in_trees_made}
use Rattle.kept_records.proofs.Whole.{whole_keeps}
use Rattle.kept_records.proofs.laws.whole_trees_renew_the_records.Goals as goal

pub returns : goal.returns
returns c = record { made = λ new records heads made makes. all_in_trees_made records new heads made makes; kept = whole_keeps }
