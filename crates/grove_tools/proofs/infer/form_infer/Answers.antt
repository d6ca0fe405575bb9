use Rattle.std.proofs.Common.{refl}
use Rattle.grove_tools.proofs.Inferring.{answer_inferred}
use Rattle.grove_tools.proofs.infer.form_infer.Goals as goal

pub returns-clause-answered : goal.returns-clause-answered
returns-clause-answered c = (answer_inferred c.args.text.now c.in_ok-text.text.items c.in_ok-table.table.edits c.in_ok-table.ensures.list c.in_ok-text.ensures, refl)
