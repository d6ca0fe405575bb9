use Rattle.std.proofs.Common.{◌≡◌}
use Rattle.edit_table.specs.Keys.{StandOnce}
use Rattle.edit_table.proofs.Ctors.{first_plains}
use Rattle.edit_table.proofs.numbering.plain_ctors.Given as goal

abbrev pub invariant-loop-number : goal.invariant-loop-number
invariant-loop-number l = (l.ctors.keys ≡ first_plains l.number) × StandOnce l.ctors.keys
