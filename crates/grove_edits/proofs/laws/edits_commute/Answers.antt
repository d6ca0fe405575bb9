use Rattle.grove_edits.proofs.Graphs.{graph-append, graph-same_edits}
use Rattle.grove_edits.proofs.laws.edits_commute.Goals as goal

pub returns-clause-append : goal.returns-clause-append
returns-clause-append c = graph-append

pub returns-clause-same_edits : goal.returns-clause-same_edits
returns-clause-same_edits c = λ a b same. graph-same_edits a b same.0 same.1
