use Rattle.std.proofs.Common.{refl}
use Rattle.session_script.proofs.Judged.{whole}
use Rattle.session_script.proofs.laws.a_text_has_a_session_or_a_fault.Goals as goal

pub returns : goal.returns
returns c = whole c.args.text.now _ refl c.judge_lines.ensures
