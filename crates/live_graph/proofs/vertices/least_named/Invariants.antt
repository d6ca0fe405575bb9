use Rattle.std.proofs.Common.{◌≡◌, true, take}
use Rattle.std.specs.Prelude.{◌&&◌, ◌||◌}
use Rattle.std.specs.List.{list_any}
use Rattle.grove_edits.specs.Vertex.{is_same_vertex, root}
use Rattle.numbers_by_name.specs.ByName.{is_same_name}
use Rattle.live_graph.specs.Uses.{is_named_vertex}
use Rattle.graph_words.specs.Named.{AreLeastTwo}
use Rattle.live_graph.proofs.vertices.least_named.Given as goal

-- what is found are the least two that the numbers so far name
abbrev pub invariant-loop-number : goal.invariant-loop-number
invariant-loop-number l =
    AreLeastTwo (λ v. ((is_same_name root.name l.name && is_same_vertex root v) || list_any (is_named_vertex l.edges l.uses l.name v) (take l.number-index l.numbers)) ≡ true) l.found
