use Rattle.kept_records.proofs.Conflict.{conflict_kept, conflict_near, conflict_once, conflict_within}
use Rattle.kept_records.proofs.laws.a_walk_below_a_conflict_renews_the_records.Goals as goal

pub returns : goal.returns
returns c = record { kept = conflict_kept; near = conflict_near; once = conflict_once; within = conflict_within }
