use Rattle.std.proofs.Common.{◌≡◌, map, take, length}
use Rattle.graph_table.specs.Around.{neighbours}
use Rattle.graph_table.specs.Chain.{AreAround}
use Rattle.graph_table.specs.Parts.{TellEdges}
use Rattle.graph_table.proofs.gathering.gather.Given as goal

-- what is around each vertex by the edits so far
abbrev pub invariant-loop-index : goal.invariant-loop-index
invariant-loop-index l = record {
  count : length l.links.items ≡ l.index;
  edges : TellEdges l.table l.links.items;
  kept : AreAround l.links.items l.around.items (map (neighbours (take l.index l.table.edits)) l.table.vertices);
}
