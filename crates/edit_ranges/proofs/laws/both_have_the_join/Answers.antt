use Rattle.grove_edits.specs.Graph.{graph, graph_join}
use Rattle.edit_ranges.proofs.Joined.{enough, joined_by_first, known_by_name, within_first, within_second}
use Rattle.edit_ranges.proofs.laws.both_have_the_join.Goals as goal

pub returns-clause-first : goal.returns-clause-first
returns-clause-first c = λ a b told_a told_b of_a of_b once. joined_by_first a b told_a of_a once

pub returns-clause-second : goal.returns-clause-second
returns-clause-second c = λ a b told_a told_b of_a of_b once.
    enough a b told_b of_b
    (known_by_name (graph_join (graph a) (graph b)) (graph a) (graph b) (within_first (graph a) (graph b)) (within_second (graph a) (graph b)) once)
