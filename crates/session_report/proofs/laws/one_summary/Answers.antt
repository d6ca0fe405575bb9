use Rattle.session_report.proofs.OneSummary.{one_summary_text}
use Rattle.session_report.proofs.laws.one_summary.Goals as goal

pub returns : goal.returns
returns g c = one_summary_text
