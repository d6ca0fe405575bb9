use Rattle.grove_sorts.proofs.Identifiers.{spelled_bytes}
use Rattle.grove_sorts.proofs.spelled.Spelling.new.Goals as goal

pub returns : goal.returns
returns c = spelled_bytes c.args.bytes.now _
