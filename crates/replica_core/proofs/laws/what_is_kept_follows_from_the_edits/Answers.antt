use Rattle.grove_edits.specs.Graph.{graph}
use Rattle.replica_core.proofs.OneRecord.{one_record_of, kept_after, same_records}
use Rattle.replica_core.proofs.laws.what_is_kept_follows_from_the_edits.Goals as goal

pub returns-clause-kept : goal.returns-clause-kept
returns-clause-kept c = kept_after

pub returns-clause-one : goal.returns-clause-one
returns-clause-one c = λ content. one_record_of (graph content.edits)

pub returns-clause-same : goal.returns-clause-same
returns-clause-same c = same_records
