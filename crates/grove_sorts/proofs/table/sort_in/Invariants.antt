use Rattle.std.proofs.Common.{◌≡◌, drop}
use Rattle.grove_sorts.specs.Ctor.{sort_in}
use Rattle.grove_sorts.proofs.table.sort_in.Given as goal

abbrev pub invariant-loop-place : goal.invariant-loop-place
invariant-loop-place l = sort_in (drop l.place-index l.entries) l.position ≡ sort_in l.entries l.position
