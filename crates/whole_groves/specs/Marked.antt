-- Marked groves by number: whose numbers are of a table of types, and what they stand for over it.
use Rattle.std.specs.Prelude.{List, [], ◌∷◌, map}
use Rattle.type_core.specs.Typ.{Typ}
use Rattle.marking.specs.declared.marked_node.MarkedNode.{MarkedNode}
use Rattle.whole_groves.specs.declared.marked_grove.MarkedGrove.{MarkedGrove}
use Rattle.marking.specs.Grove.{MarkedTrees}
use Rattle.marking.specs.Numbers.{AreMarkedNodesOf}
use Rattle.marking.specs.Reading.{meant_nodes}

abbrev pub AreMarkedListsOf : List Typ → List (List MarkedNode) → Type 0
AreMarkedListsOf types [] = Unit {0}
AreMarkedListsOf types (t ∷ ts) = AreMarkedNodesOf types t × AreMarkedListsOf types ts

pub record IsMarkedGroveOf (types : List Typ) (grove : MarkedGrove) : Type 0 where
  pub none : AreMarkedListsOf types grove.none
  pub multi : AreMarkedListsOf types grove.multi
  pub cycle : AreMarkedListsOf types grove.cycle

abbrev pub meant_grove : List Typ → MarkedGrove → MarkedTrees
meant_grove types grove = record {
  none = map (meant_nodes types) grove.none;
  multi = map (meant_nodes types) grove.multi;
  cycle = map (meant_nodes types) grove.cycle;
}
