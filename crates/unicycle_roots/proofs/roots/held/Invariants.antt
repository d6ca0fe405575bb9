use Rattle.std.proofs.Common.{◌≡◌, filter, take}
use Rattle.grove_edits.specs.Vertex.{stands_in}
use Rattle.unicycle_roots.proofs.roots.held.Given as goal

abbrev pub invariant-loop-vertex : goal.invariant-loop-vertex
invariant-loop-vertex l = l.found.items ≡ filter (λ v. stands_in v l.roots.keys) (take l.vertex-index l.vertices)
