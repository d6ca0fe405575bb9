-- What C is told of the first bad line of an edit text or of a summary.
use Rattle.std.specs.Prelude.{ℕ}
use Rattle.edit_text.specs.declared.line_fault.LineFault.{LineFault}
use Rattle.edit_text.specs.declared.line_fault.LineFault.TheVariants.{Syntax, BadVertex, NoPosition, WrongSort}
use Rattle.edit_text.specs.declared.text_fault.TextFault.{TextFault}
use Rattle.edit_text.specs.declared.text_fault.TextFault.TheVariants.{Malformed, Rest, NoMemory}
use Rattle.edit_ranges.specs.declared.fault.RangeFault.{RangeFault}
use Rattle.edit_ranges.specs.declared.fault.RangeFault.TheVariants as range_fault
use Rattle.grove_c.specs.declared.bad_line.BadLine.{BadLine}
use Rattle.grove_c.specs.declared.code.TheConstants.{MALFORMED, NO_MEMORY}

abbrev pub number_of_fault : LineFault → ℕ
number_of_fault Syntax = 1
number_of_fault BadVertex = 2
number_of_fault NoPosition = 3
number_of_fault WrongSort = 4

abbrev pub no_bad_line : BadLine
no_bad_line = record { line = 0; fault = 0 }

-- bytes behind the last line feed have the fault 5
abbrev pub bad_line : TextFault → BadLine
bad_line (Malformed line fault) = record { line = line; fault = number_of_fault fault }
bad_line (Rest line) = record { line = line; fault = 5 }
bad_line NoMemory = no_bad_line

abbrev pub fault_code : TextFault → ℕ
fault_code NoMemory = NO_MEMORY
fault_code _ = MALFORMED

-- in a summary too, bytes behind the last line feed have the fault 5
abbrev pub number_of_range_fault : RangeFault → ℕ
number_of_range_fault range_fault.Syntax = 1
number_of_range_fault range_fault.Unended = 5
number_of_range_fault range_fault.OutOfOrder = 6

abbrev pub range_bad_line : ℕ → RangeFault → BadLine
range_bad_line line fault = record { line = line; fault = number_of_range_fault fault }
