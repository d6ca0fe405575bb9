use Rattle.replica_core.proofs.Contents.{journal_taken}
use Rattle.replica_core.proofs.laws.a_journal_takes_its_edits.Goals as goal

pub returns : goal.returns
returns c = journal_taken
