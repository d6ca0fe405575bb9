use Rattle.grove_terms.proofs.EdgePlaces.{count_live, count_other}
use Rattle.grove_terms.proofs.laws.each_live_edge_stands_once.Goals as goal

pub returns-clause-live : goal.returns-clause-live
returns-clause-live c = count_live

pub returns-clause-no_other : goal.returns-clause-no_other
returns-clause-no_other c = count_other
