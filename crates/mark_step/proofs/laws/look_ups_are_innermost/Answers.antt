use Rattle.mark_step.proofs.ScopeLemmas.{type_of_name-innermost, type_of_name-unbound, unbound-type_of_name}
use Rattle.mark_step.proofs.laws.look_ups_are_innermost.Goals as goal

pub returns-clause-found : goal.returns-clause-found
returns-clause-found c = type_of_name-innermost

pub returns-clause-unbound : goal.returns-clause-unbound
returns-clause-unbound c = type_of_name-unbound

pub returns-clause-only_unbound : goal.returns-clause-only_unbound
returns-clause-only_unbound c = unbound-type_of_name
