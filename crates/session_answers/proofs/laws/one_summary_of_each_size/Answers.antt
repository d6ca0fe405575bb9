use Rattle.session_answers.proofs.OneSize.{one_summary_of_size}
use Rattle.session_answers.proofs.laws.one_summary_of_each_size.Goals as goal

pub returns : goal.returns
returns c = one_summary_of_size
