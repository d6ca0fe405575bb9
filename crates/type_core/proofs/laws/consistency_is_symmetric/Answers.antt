use Rattle.type_core.proofs.TypLemmas.{is_consistent-sym}
use Rattle.type_core.proofs.laws.consistency_is_symmetric.Goals as goal

pub returns : goal.returns
returns c = is_consistent-sym
