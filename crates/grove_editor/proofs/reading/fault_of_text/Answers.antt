use Rattle.std.proofs.Common.{subst, arith}
use Rattle.edit_text.specs.Text.{IsMalformed, HasRest, HasTextFault}
use Rattle.grove_editor.proofs.TextLines.{malformed_within, rest_within}
use Rattle.grove_editor.proofs.reading.fault_of_text.Goals as goal

pub overflow_add-result : goal.overflow_add-result
overflow_add-result c =
    let (lines, of, has) = c.requires in
    let bad : IsMalformed c.args.version lines c.in-Malformed.line c.in-Malformed.fault = subst (HasTextFault c.args.version lines) c.in-Malformed.is has in
    let within = malformed_within c.args.version c.args.text.now lines c.in-Malformed.line c.in-Malformed.fault of bad in
    omega (arith, c.header_lines-before.ensures)

pub overflow_add-result-in-Rest : goal.overflow_add-result-in-Rest
overflow_add-result-in-Rest c =
    let (lines, of, has) = c.requires in
    let rest : HasRest c.args.version lines c.in-Rest.line = subst (HasTextFault c.args.version lines) c.in-Rest.is has in
    let within = rest_within c.args.version c.args.text.now lines c.in-Rest.line of rest in
    omega (arith, c.header_lines-before.ensures)
