-- What a test of one fault tells.
use Rattle.std.specs.Prelude.{◌≡◌, Option, None, Some, Result, Ok, Err}
use Rattle.grove_edits.specs.declared.act_fault.ActFault.{ActFault}

-- the answer is Ok exactly where the fault does not apply, and else the fault
abbrev pub Tells : {X : Type 0} → Option ActFault → Result X ActFault → Type 0
Tells fault (Ok x) = fault ≡ None
Tells fault (Err told) = fault ≡ Some told
