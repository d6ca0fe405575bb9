-- What stands above a node, by numbers, and what it stands for over a table of types.
use Rattle.std.specs.Prelude.{List, map, reverse, All, IfSome}
use Rattle.std.specs.Option.{option_map}
use Rattle.type_core.specs.Typ.{Typ}
use Rattle.type_core.specs.TypeTable.{IsTypeOf, type_at}
use Rattle.edit_table.specs.Lent.{lent_ctor}
use Rattle.mark_step.specs.Node.{wanted_at, IsModeOf}
use Rattle.kept_printer.specs.declared.parent.ParentVertex.{ParentVertex}
use Rattle.kept_printer.specs.declared.parent.Parent.{Parent}
use Rattle.kept_printer.specs.declared.parent.Parent.TheVariants.{Vertex, Conflict}
use Rattle.kept_printer.specs.Above.{Above, Of, Several}

abbrev pub parent_at : List Typ → Parent → Above
parent_at types (Vertex v) = Of (lent_ctor v.ctor) (wanted_at types v.mode) (option_map (type_at types) v.first)
parent_at types Conflict = Several

-- those above the next node, innermost first, where they are kept outermost first
abbrev pub parents_at : List Typ → List Parent → List Above
parents_at types parents = reverse (map (parent_at types) parents)

-- the numbers are of the table

pub record IsVertexOf (types : List Typ) (v : ParentVertex) : Type 0 where
  pub mode : IsModeOf types v.mode
  pub first : IfSome v.first (IsTypeOf types)

abbrev pub IsParentOf : List Typ → Parent → Type 0
IsParentOf types (Vertex v) = IsVertexOf types v
IsParentOf types Conflict = Unit {0}

abbrev pub AreParentsOf : List Typ → List Parent → Type 0
AreParentsOf types parents = All (IsParentOf types) parents
