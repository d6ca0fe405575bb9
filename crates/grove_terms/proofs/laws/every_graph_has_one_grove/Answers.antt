use Rattle.grove_terms.proofs.OneGrove.{some_grove, one_grove, same_edits_same_grove}
use Rattle.grove_terms.proofs.laws.every_graph_has_one_grove.Goals as goal

pub returns : goal.returns
returns c = record { some = some_grove; one = one_grove; same_edits = same_edits_same_grove }
