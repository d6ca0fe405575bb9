use Rattle.grove_sorts.proofs.Plains.{cmp_is_plain_cmp, one_plain, has_plain, plain_stands}
use Rattle.grove_sorts.proofs.laws.plain_constructors_are_their_constructors.Goals as goal

pub returns-clause-one : goal.returns-clause-one
returns-clause-one c = one_plain

pub returns-clause-each : goal.returns-clause-each
returns-clause-each c = has_plain

pub returns-clause-compared : goal.returns-clause-compared
returns-clause-compared c = cmp_is_plain_cmp

pub returns-clause-numbered : goal.returns-clause-numbered
returns-clause-numbered c = plain_stands
