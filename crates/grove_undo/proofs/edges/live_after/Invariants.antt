use Rattle.std.proofs.Common.{◌≡◌, filter, take}
use Rattle.grove_edits.specs.Graph.{graph_join}
use Rattle.graph_words.specs.States.{state_in}
use Rattle.user_actions.specs.NamedEdges.{is_live_in}
use Rattle.grove_undo.proofs.edges.live_after.Given as goal

abbrev pub invariant-loop-edge : goal.invariant-loop-edge
invariant-loop-edge l = l.live.items ≡ filter (is_live_in (graph_join (state_in l.graph) (state_in l.asked))) (take l.edge-index l.edges)
