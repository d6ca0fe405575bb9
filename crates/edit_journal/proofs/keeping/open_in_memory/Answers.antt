use Rattle.edit_journal.proofs.Lines.{one_log}
use Rattle.edit_journal.proofs.keeping.open_in_memory.Goals as goal

-- a file is a log with one list of edits
pub returns-in-Ok-clause-found : goal.returns-in-Ok-clause-found
returns-in-Ok-clause-found c = λ edits is. one_log c.args.disk edits _ is c.in-Ok.ensures.opened.given
