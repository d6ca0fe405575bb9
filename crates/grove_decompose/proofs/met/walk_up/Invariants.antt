use Rattle.graph_words.specs.Met.{unmet}
use Rattle.graph_table.specs.Table.{live}
use Rattle.grove_decompose.specs.Met.{met_of}
use Rattle.grove_decompose.proofs.Walking.{IsWalking}
use Rattle.grove_decompose.proofs.met.walk_up.Given as goal

abbrev pub invariant-loop-earlier : goal.invariant-loop-earlier
invariant-loop-earlier l = IsWalking l.table l.start l.at l.walk l.fn.met l.met

abbrev pub decreases-loop-earlier : goal.decreases-loop-earlier
decreases-loop-earlier l = unmet (live l.table) (met_of l.table.vertices l.met)
