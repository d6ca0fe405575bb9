use Rattle.std.proofs.Common.{◌≡◌, drop}
use Rattle.grove_sorts.specs.Ctor.{first_in}
use Rattle.grove_sorts.proofs.table.first_in.Given as goal

abbrev pub invariant-loop-place : goal.invariant-loop-place
invariant-loop-place l = first_in (drop l.place-index l.entries) l.sort ≡ first_in l.entries l.sort
