use Rattle.grove_sorts.proofs.Identifiers.{ident_exact, identifier_spelled}
use Rattle.grove_sorts.proofs.Orders.{ident_cmp_total, ident_cmp_exact}
use Rattle.grove_sorts.proofs.Texts.{Lacks-ident_bytes}
use Rattle.grove_sorts.proofs.laws.identifiers_are_ordered.Goals as goal

pub returns-clause-exact : goal.returns-clause-exact
returns-clause-exact c = ident_exact

pub returns-clause-total : goal.returns-clause-total
returns-clause-total c = ident_cmp_total

pub returns-clause-ties : goal.returns-clause-ties
returns-clause-ties c = ident_cmp_exact

pub returns-clause-spelled : goal.returns-clause-spelled
returns-clause-spelled c = identifier_spelled

pub returns-clause-unbroken : goal.returns-clause-unbroken
returns-clause-unbroken c = Lacks-ident_bytes
