-- The exit status of a program.
use Rattle.std.specs.Prelude.{ℕ}
use Rattle.grove_calls.specs.declared.ending.Ending.{Ending}
use Rattle.grove_calls.specs.declared.ending.Ending.TheVariants.{Done, Usage, Malformed, TooLong, Unfit, ReadFault, WriteFault, NoMemory}

abbrev pub exit_number : Ending → ℕ
exit_number Done = 0
exit_number Usage = 2
exit_number (Malformed line fault) = 3
exit_number TooLong = 4
exit_number ReadFault = 5
exit_number WriteFault = 6
exit_number NoMemory = 7
exit_number Unfit = 8
