use Rattle.std.proofs.Common.{◌≡◌, Bool, true, List, subst}
use Rattle.std.specs.Prelude.{Some, slice_get}
use Rattle.grove_decompose.proofs.Noted.{none_noted}
use Rattle.grove_decompose.proofs.noted_numbers.NotedNumbers.none_of.Goals as goal

pub returns : goal.returns
returns c n is = absurd (none_noted c.number_count.result n (subst (λ (bs : List Bool). slice_get bs n ≡ Some true) (c.in_ok-vec.ensures.items_if_clones_equal (λ y e. cc)) is))
