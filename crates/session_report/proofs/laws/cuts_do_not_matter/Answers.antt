use Rattle.session_report.proofs.Brought.{sent_brought}
use Rattle.session_report.proofs.laws.cuts_do_not_matter.Goals as goal

pub returns : goal.returns
returns g c = sent_brought
