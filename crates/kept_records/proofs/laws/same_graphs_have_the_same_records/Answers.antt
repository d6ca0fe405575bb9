use Rattle.kept_records.proofs.OneSize.{live_along, kept_along, size_along}
use Rattle.kept_records.proofs.laws.same_graphs_have_the_same_records.Goals as goal

pub returns : goal.returns
returns c = record { live = live_along; kept = kept_along; size = size_along }
