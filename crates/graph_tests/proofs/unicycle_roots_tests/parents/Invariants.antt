use Rattle.std.proofs.Common.{◌≡◌, take}
use Rattle.graph_words.specs.Few.{first_two}
use Rattle.graph_words.specs.Live.{parents_of}
use Rattle.graph_tests.proofs.unicycle_roots_tests.parents.Given as goal

abbrev pub invariant-loop-edge : goal.invariant-loop-edge
invariant-loop-edge l = l.few ≡ first_two (parents_of l.vertex (take l.edge-index l.edges))
