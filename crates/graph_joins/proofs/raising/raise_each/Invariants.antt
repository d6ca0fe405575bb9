use Rattle.std.proofs.Common.{take}
use Rattle.grove_edits.specs.Graph.{graph, graph_join, IsSame}
use Rattle.graph_words.specs.States.{state_in}
use Rattle.graph_joins.proofs.raising.raise_each.Given as goal

-- the edits so far are joined
abbrev pub invariant-loop-edit : goal.invariant-loop-edit
invariant-loop-edit l = IsSame (state_in l.kept) (graph_join (state_in l.fn.kept) (graph (take l.edit-index l.edits)))
