use Rattle.std.proofs.Common.{refl}
use Rattle.grove_tools.proofs.Reporting.{answer_reported}
use Rattle.grove_tools.proofs.report.form_json.Goals as goal

pub returns-clause-answered : goal.returns-clause-answered
returns-clause-answered c = (answer_reported c.args.text.now c.in_ok-text.text.items c.in_ok-table.table.edits c.in_ok-table.ensures.list c.in_ok-text.ensures, refl)
