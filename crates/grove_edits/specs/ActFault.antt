-- The numbers of the faults, in the order in which they are tried.
use Rattle.std.specs.Prelude.{ℕ}
use Rattle.grove_edits.specs.declared.act_fault.ActFault.{ActFault}
use Rattle.grove_edits.specs.declared.act_fault.ActFault.TheVariants.{NoVertex, AmbiguousVertex, NoPosition, WrongSort, Occupied, Empty, CannotWrap, NoEdge, AmbiguousEdge, IntoItself, NotLoose, NamesSpent}

abbrev pub fault_number : ActFault → ℕ
fault_number (NoVertex name) = 1
fault_number (AmbiguousVertex first second) = 2
fault_number (NoPosition vertex) = 3
fault_number (WrongSort wanted found) = 4
fault_number (Occupied edge) = 5
fault_number (Empty place) = 6
fault_number (CannotWrap ctor) = 7
fault_number (NoEdge name) = 8
fault_number (AmbiguousEdge first second) = 9
fault_number (IntoItself vertex) = 10
fault_number (NotLoose edge) = 11
fault_number (NamesSpent greatest) = 12
