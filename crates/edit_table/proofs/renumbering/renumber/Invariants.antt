use Rattle.edit_table.proofs.Renumbered.{AreFirstRenumbered}
use Rattle.edit_table.proofs.renumbering.renumber.Given as goal

abbrev pub invariant-loop-index : goal.invariant-loop-index
invariant-loop-index l = AreFirstRenumbered l.keys l.fn.records.items l.records.items l.numbers.items l.met.items l.index
