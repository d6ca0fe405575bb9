use Rattle.grove_calls.proofs.JudgedLines.{first_good, first_bad}
use Rattle.grove_calls.proofs.laws.+judge_lines.Goals as goal

pub returns-in-Ok : goal.returns-in-Ok
returns-in-Ok t c = first_good c.args.version c.args.lines.now c.in-Some.line.now c.in-Some.after.now c.in-Ok._edit c.in-Some.ensures.parts c.in-Ok.ensures.edit c.judge_lines.ensures

pub returns-in_default-read_line : goal.returns-in_default-read_line
returns-in_default-read_line t c =
    first_bad c.args.version c.args.lines.now c.in-Some.line.now c.in-Some.after.now c.in_default-read_line.field-0 c.in-Some.ensures.parts c.in-Some.ensures.first c.in_default-read_line.ensures.first_fault
