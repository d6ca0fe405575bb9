use Rattle.type_core.proofs.TypLemmas.{meet-same, meet-comm, meet-assoc}
use Rattle.type_core.proofs.laws.meet_is_a_semilattice.Goals as goal

pub returns-clause-idempotent : goal.returns-clause-idempotent
returns-clause-idempotent c = meet-same

pub returns-clause-commutative : goal.returns-clause-commutative
returns-clause-commutative c = meet-comm

pub returns-clause-associative : goal.returns-clause-associative
returns-clause-associative c = meet-assoc
