-- One call after another: what both moved, and that the count of faults has risen since the first.
use Rattle.std.proofs.Common.{◌≡◌, ◌≤◌, ◌+◌, ◌-◌, ℕ, List, ◌++◌, Option, None, Some, arith, inl, inr, length, take, drop, append_assoc}
use Rattle.std.proofs.Math.Seq.{take-add}
use Rattle.std.proofs.lemmas.List.{take_rest}
use Rattle.grove_io.specs.Outside.{Gave, Took, HasRisen}

-- what two calls gave, one after the other
pub Gave-append : (before between after : Option (List ℕ)) (xs ys : List ℕ) → Gave before xs between → Gave between ys after → Gave before (xs ++ ys) after
Gave-append before between None xs ys first second = grind (arith, first, second)
Gave-append before between (Some rest) xs ys first second = grind (arith, append_assoc, first, second)

-- what two calls took, one after the other
pub Took-append : (before between after : Option (List ℕ)) (xs ys : List ℕ) → Took before xs between → Took between ys after → Took before (xs ++ ys) after
Took-append None between after xs ys first second = grind (arith, first, second)
Took-append (Some taken) between after xs ys first second = grind (arith, append_assoc, first, second)

-- a count that has risen since a moment has risen since an earlier one
pub HasRisen-since : (before between after : ℕ) → before ≤ between → HasRisen between after → HasRisen before after
HasRisen-since before between after earlier (inl risen) = inl (omega arith)
HasRisen-since before between after earlier (inr last) = inr last

-- the front of some bytes, and then the front of the rest of them
pub Took-take : (before between after : Option (List ℕ)) (bytes : List ℕ) (n m : ℕ) → Took before (take n bytes) between
    → Took between (take m (take (length bytes - n) (drop n bytes))) after → Took before (take (n + m) bytes) after
Took-take before between after bytes n m first second =
    rw (take-add n m bytes) (Took-append before between after (take n bytes) (take m (drop n bytes)) first (rw (take_rest bytes n) at second))

-- the front of a text, and then a read to behind it, which kept that front
pub Gave-take : (before between after : Option (List ℕ)) (old new : List ℕ) (n m : ℕ) → Gave before (take n old) between
    → take n new ≡ take n old → Gave between (take m (drop n new)) after → Gave before (take (n + m) new) after
Gave-take before between after old new n m first same second =
    rw (take-add n m new, same) (Gave-append before between after (take n old) (take m (drop n new)) first second)
