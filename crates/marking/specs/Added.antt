-- What marking adds to the nodes of a tree, beside the nodes.
use Rattle.std.specs.Prelude.{List, [], ◌∷◌}
use Rattle.grove_terms.specs.declared.node.LentNode.{LentNode}
use Rattle.marking.specs.declared.added.Added.{Added}
use Rattle.marking.specs.declared.marked_node.MarkedNode.{MarkedNode}

abbrev pub with_added : LentNode → Added → MarkedNode
with_added n a = record { node = n; mode = a.mode; typ = a.typ; mark = a.mark }

abbrev pub added_to : MarkedNode → Added
added_to m = record { mode = m.mode; typ = m.typ; mark = m.mark }

-- the nodes with what is added to them, one by one, as far as something is added
abbrev pub marked_nodes : List LentNode → List Added → List MarkedNode
marked_nodes ns [] = []
marked_nodes [] (a ∷ added) = []
marked_nodes (n ∷ ns) (a ∷ added) = with_added n a ∷ marked_nodes ns added
