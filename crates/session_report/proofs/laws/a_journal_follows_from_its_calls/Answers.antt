use Rattle.grove_edits.specs.Graph.{graph}
use Rattle.session_report.proofs.OneJournal.{one_journal}
use Rattle.session_report.proofs.laws.a_journal_follows_from_its_calls.Goals as goal

pub returns : goal.returns
returns g c = λ stage opening journal other legal also. one_journal (graph opening) opening journal other legal.planned also.planned
