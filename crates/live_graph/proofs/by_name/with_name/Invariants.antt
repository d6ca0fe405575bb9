use Rattle.std.proofs.Common.{◌≡◌, take}
use Rattle.std.specs.List.{list_any}
use Rattle.grove_edits.specs.declared.edge.Edge.{Edge}
use Rattle.graph_words.specs.Live.{holds_edge}
use Rattle.live_graph.specs.ByName.{is_named_edge}
use Rattle.live_graph.proofs.by_name.with_name.Given as goal

-- what is found is what the numbers so far name
abbrev pub invariant-loop-number : goal.invariant-loop-number
invariant-loop-number l = (e : Edge) → holds_edge e l.found.items ≡ list_any (is_named_edge l.edges l.name e) (take l.number-index l.numbers)
