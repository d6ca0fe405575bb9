-- Marked nodes, and what is added to them, whose numbers are of a table of types.
use Rattle.std.specs.Prelude.{List, [], ◌∷◌, IfSome}
use Rattle.type_core.specs.Typ.{Typ}
use Rattle.type_core.specs.TypeTable.{IsTypeOf}
use Rattle.mark_step.specs.Node.{IsModeOf}
use Rattle.marking.specs.declared.added.Added.{Added}
use Rattle.marking.specs.declared.marked_node.MarkedNode.{MarkedNode}

pub record IsMarkedNodeOf (types : List Typ) (m : MarkedNode) : Type 0 where
  pub mode : IfSome m.mode (IsModeOf types)
  pub typ : IfSome m.typ (IsTypeOf types)

abbrev pub AreMarkedNodesOf : List Typ → List MarkedNode → Type 0
AreMarkedNodesOf types [] = Unit {0}
AreMarkedNodesOf types (m ∷ ms) = IsMarkedNodeOf types m × AreMarkedNodesOf types ms

pub record IsAddedOf (types : List Typ) (a : Added) : Type 0 where
  pub mode : IfSome a.mode (IsModeOf types)
  pub typ : IfSome a.typ (IsTypeOf types)

abbrev pub AreAddedOf : List Typ → List Added → Type 0
AreAddedOf types [] = Unit {0}
AreAddedOf types (a ∷ added) = IsAddedOf types a × AreAddedOf types added
