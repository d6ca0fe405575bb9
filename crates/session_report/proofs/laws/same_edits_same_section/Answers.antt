use Rattle.session_report.proofs.OneReport.{same_section}
use Rattle.session_report.specs.Taken.{taken}
use Rattle.session_report.proofs.laws.same_edits_same_section.Goals as goal

pub returns : goal.returns
returns g c = λ journals others a b before earlier name other. same_section name other (taken journals a before) (taken others b earlier)
