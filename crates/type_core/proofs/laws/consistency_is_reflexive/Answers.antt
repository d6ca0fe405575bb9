use Rattle.type_core.proofs.TypLemmas.{is_consistent-same}
use Rattle.type_core.proofs.laws.consistency_is_reflexive.Goals as goal

pub returns : goal.returns
returns c = is_consistent-same
