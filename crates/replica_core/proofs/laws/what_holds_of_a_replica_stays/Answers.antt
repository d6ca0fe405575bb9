use Rattle.replica_core.proofs.Contents.{content_empty, content_taken, content_opened}
use Rattle.replica_core.proofs.laws.what_holds_of_a_replica_stays.Goals as goal

pub returns-clause-empty : goal.returns-clause-empty
returns-clause-empty c = content_empty

pub returns-clause-taken : goal.returns-clause-taken
returns-clause-taken c = content_taken

pub returns-clause-opened : goal.returns-clause-opened
returns-clause-opened c = content_opened
