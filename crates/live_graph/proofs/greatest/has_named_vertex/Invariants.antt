use Rattle.std.proofs.Common.{◌≡◌, false, take}
use Rattle.std.specs.List.{list_any}
use Rattle.live_graph.specs.Uses.{is_vertex_named}
use Rattle.live_graph.proofs.greatest.has_named_vertex.Given as goal

-- no number so far is that of one
abbrev pub invariant-loop-number : goal.invariant-loop-number
invariant-loop-number l = list_any (is_vertex_named l.edges l.uses l.name) (take l.number-index l.numbers) ≡ false
