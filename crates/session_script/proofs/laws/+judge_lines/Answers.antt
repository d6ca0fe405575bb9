use Rattle.std.proofs.Common.{subst}
use Rattle.session_script.specs.Judged.{AreJudged}
use Rattle.session_script.proofs.Judged.{none_left, first_said, first_bad}
use Rattle.session_script.proofs.laws.+judge_lines.Goals as goal

pub returns-in-Ok : goal.returns-in-Ok
returns-in-Ok t c =
    first_said c.args.version c.args.lines.now c.in-Some.line.now c.in-Some.after.now c.in-Some.ensures.parts c.in-Some.ensures.first c.in-Ok.statement c.in-Ok.ensures.says
    (subst (λ version. AreJudged version c.in-Some.after.now) c.version_behind.ensures c.judge_lines.ensures)

pub returns-in_default-read_statement : goal.returns-in_default-read_statement
returns-in_default-read_statement t c =
    first_bad c.args.version c.args.lines.now c.in-Some.line.now c.in-Some.after.now c.in-Some.ensures.parts c.in-Some.ensures.first c.in_default-read_statement.field-0 c.in_default-read_statement.ensures.form_fault

pub returns-in_default : goal.returns-in_default
returns-in_default t c = none_left c.args.version c.args.lines.now c.in_default.ensures.none
