use Rattle.std.proofs.Common.{◌-◌, length}
use Rattle.live_graph.specs.Uses.{AreUses, HasVertexNames}
use Rattle.live_graph.proofs.uses.name_vertices.Given as goal

-- the uses of the vertices so far are counted
abbrev pub invariant-loop-names : goal.invariant-loop-names
invariant-loop-names l = record { uses : AreUses l.edges l.uses.items; names : HasVertexNames l.edges (length l.uses.items) l.names }

abbrev pub decreases-loop-names : goal.decreases-loop-names
decreases-loop-names l = length l.edges.vertices - length l.uses.items
