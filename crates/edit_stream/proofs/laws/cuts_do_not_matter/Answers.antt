use Rattle.edit_stream.proofs.Cuts.{all_joined, one_answer}
use Rattle.edit_stream.proofs.laws.cuts_do_not_matter.Goals as goal

pub returns-clause-all : goal.returns-clause-all
returns-clause-all c = all_joined

pub returns-clause-one_answer : goal.returns-clause-one_answer
returns-clause-one_answer c = one_answer
