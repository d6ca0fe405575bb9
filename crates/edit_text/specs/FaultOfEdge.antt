-- The faults of edges among those of lines, and what a fault of a line says.
-- The promise of the commands rests on these definitions.
use Rattle.std.specs.Prelude.{◌≡◌}
use Rattle.grove_edits.specs.declared.edge.EdgeFault.{EdgeFault}
use Rattle.grove_edits.specs.declared.edge.EdgeFault.TheVariants as edges
use Rattle.edit_text.specs.declared.line_fault.LineFault.{LineFault}
use Rattle.edit_text.specs.declared.line_fault.LineFault.TheVariants.{Syntax, BadVertex, NoPosition, WrongSort}

abbrev pub line_fault_of : EdgeFault → LineFault
line_fault_of edges.BadVertex = BadVertex
line_fault_of edges.NoPosition = NoPosition
line_fault_of edges.WrongSort = WrongSort

-- a line has the fault Syntax where it has no form, and else the fault that its edge has
pub data IsFaultBy (HasNoForm : Type 0) (EdgeHas : EdgeFault → Type 0) (fault : LineFault) : Type 0 where
  without_form : HasNoForm → fault ≡ Syntax → IsFaultBy HasNoForm EdgeHas fault
  with_edge : (of_edge : EdgeFault) → EdgeHas of_edge → fault ≡ line_fault_of of_edge → IsFaultBy HasNoForm EdgeHas fault
