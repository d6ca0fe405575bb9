use Rattle.type_core.proofs.TypLemmas.{is_below-same, is_below-trans, is_below-antisym}
use Rattle.type_core.proofs.laws.precision_is_an_order.Goals as goal

pub returns-clause-reflexive : goal.returns-clause-reflexive
returns-clause-reflexive c = is_below-same

pub returns-clause-transitive : goal.returns-clause-transitive
returns-clause-transitive c = is_below-trans

pub returns-clause-antisymmetric : goal.returns-clause-antisymmetric
returns-clause-antisymmetric c = is_below-antisym
