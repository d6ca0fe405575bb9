use Rattle.kept_records.proofs.Short.{short_kept, short_near, short_once, short_within}
use Rattle.kept_records.proofs.laws.a_short_walk_renews_the_records.Goals as goal

pub returns : goal.returns
returns c = record { kept = short_kept; near = short_near; once = short_once; within = short_within }
