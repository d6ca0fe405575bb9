use Rattle.std.proofs.Common.{subst, arith}
use Rattle.edit_text.specs.Text.{IsMalformed, HasRest, HasTextFault}
use Rattle.edit_text.proofs.TextsOfEdits.{malformed_short, rest_short}
use Rattle.grove_calls.proofs.Counting.{header_short}
use Rattle.grove_calls.proofs.edits.fault_of_text.Goals as goal

pub overflow_add-result : goal.overflow_add-result
overflow_add-result c =
    let (lines, few, has) = c.requires.few in
    let bad : IsMalformed c.args.version lines c.in-Malformed.line c.in-Malformed.fault = subst (HasTextFault c.args.version lines) c.in-Malformed.is has in
    let short = malformed_short c.args.version lines c.in-Malformed.line c.in-Malformed.fault bad in
    let before = header_short c.args.version in
    omega (arith, c.header_lines-before.ensures)

pub overflow_add-result-in-Rest : goal.overflow_add-result-in-Rest
overflow_add-result-in-Rest c =
    let (lines, few, has) = c.requires.few in
    let rest : HasRest c.args.version lines c.in-Rest.line = subst (HasTextFault c.args.version lines) c.in-Rest.is has in
    let short = rest_short c.args.version lines c.in-Rest.line rest in
    let before = header_short c.args.version in
    omega (arith, c.header_lines-before.ensures)
