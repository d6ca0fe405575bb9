use Rattle.grove_sorts.proofs.Orders.{ctor_cmp_total, ctor_cmp_exact, cmp_is_ctor_cmp}
use Rattle.grove_sorts.proofs.laws.constructors_are_ordered.Goals as goal

pub returns-clause-total : goal.returns-clause-total
returns-clause-total c = ctor_cmp_total

pub returns-clause-ties : goal.returns-clause-ties
returns-clause-ties c = ctor_cmp_exact

pub returns-clause-compared : goal.returns-clause-compared
returns-clause-compared c = cmp_is_ctor_cmp
