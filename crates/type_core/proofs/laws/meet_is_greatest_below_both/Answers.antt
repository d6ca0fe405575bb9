use Rattle.type_core.proofs.TypLemmas.{meet-below, meet-greatest}
use Rattle.type_core.proofs.laws.meet_is_greatest_below_both.Goals as goal

pub returns-clause-below : goal.returns-clause-below
returns-clause-below c = meet-below

pub returns-clause-greatest : goal.returns-clause-greatest
returns-clause-greatest c = meet-greatest
