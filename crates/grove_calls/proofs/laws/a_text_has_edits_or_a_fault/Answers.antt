use Rattle.grove_calls.proofs.JudgedLines.{whole}
use Rattle.grove_calls.proofs.laws.a_text_has_edits_or_a_fault.Goals as goal

pub returns : goal.returns
returns c = whole c.args.text.now c.split_version-version.result.0 c.split_version-version.result.1.now c.split_version-version.ensures c.judge_lines.ensures
