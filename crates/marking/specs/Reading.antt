-- What the nodes of marked trees stand for, over a table of types.
use Rattle.std.specs.Prelude.{List, map}
use Rattle.std.specs.Option.{option_map}
use Rattle.type_core.specs.Typ.{Typ}
use Rattle.type_core.specs.TypeTable.{type_at}
use Rattle.grove_terms.specs.declared.node.Node.{Node}
use Rattle.grove_terms.specs.Lent.{node_of}
use Rattle.mark_step.specs.Node.{wanted_at}
use Rattle.marking.specs.Marking.{MarkedNode as MeantNode}
use Rattle.marking.specs.declared.marked_node.MarkedNode.{MarkedNode}

-- the node that a node by number stands for
abbrev pub meant : List Typ → MarkedNode → MeantNode
meant types m = record {
  node = node_of m.node;
  wanted = option_map (wanted_at types) m.mode;
  typ = option_map (type_at types) m.typ;
  mark = m.mark;
}

abbrev pub meant_nodes : List Typ → List MarkedNode → List MeantNode
meant_nodes types ms = map (meant types) ms

-- the nodes without what marking added
abbrev pub bare_nodes : List MarkedNode → List Node
bare_nodes ms = map (λ m. node_of m.node) ms
