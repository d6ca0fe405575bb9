use Rattle.session_report.proofs.OneReport.{one_report_text}
use Rattle.session_report.proofs.laws.one_report.Goals as goal

pub returns : goal.returns
returns g c = one_report_text
