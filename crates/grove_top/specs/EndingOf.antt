-- The statuses of a run among the endings of calls.
use Rattle.grove_calls.specs.declared.ending.Ending.{Ending}
use Rattle.grove_calls.specs.declared.ending.Ending.TheVariants as endings
use Rattle.grove_top.specs.declared.outcome.Status.{Status}
use Rattle.grove_top.specs.declared.outcome.Status.TheVariants.{Done, Usage, Malformed, TooLong, ReadFault, WriteFault, NoMemory}

abbrev pub ending_of : Status → Ending
ending_of Done = endings.Done
ending_of Usage = endings.Usage
ending_of (Malformed line fault) = endings.Malformed line fault
ending_of TooLong = endings.TooLong
ending_of ReadFault = endings.ReadFault
ending_of WriteFault = endings.WriteFault
ending_of NoMemory = endings.NoMemory
