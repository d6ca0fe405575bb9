use Rattle.grove_sorts.proofs.Orders.{position_cmp_total, position_cmp_exact, cmp_is_position_cmp}
use Rattle.grove_sorts.proofs.laws.positions_are_ordered.Goals as goal

pub returns-clause-total : goal.returns-clause-total
returns-clause-total c = position_cmp_total

pub returns-clause-ties : goal.returns-clause-ties
returns-clause-ties c = position_cmp_exact

pub returns-clause-compared : goal.returns-clause-compared
returns-clause-compared c = cmp_is_position_cmp
