use Rattle.type_core.proofs.TypLemmas.{is_some-meet, meet-consistent}
use Rattle.type_core.proofs.laws.meet_is_where_consistent.Goals as goal

pub returns-clause-defined : goal.returns-clause-defined
returns-clause-defined c = is_some-meet

pub returns-clause-with_both : goal.returns-clause-with_both
returns-clause-with_both c = meet-consistent
