use Rattle.std.proofs.Common.{[], sym, subst}
use Rattle.edge_numbers.specs.Narrow.{IsNumbered}
use Rattle.edge_numbers.proofs.Narrow.{numbered_none}
use Rattle.edge_numbers.proofs.edge_numbers.EdgeNumbers.with_seed.Goals as goal

pub invariant_of-result : goal.invariant_of-result
invariant_of-result c = subst (λ vs. IsNumbered vs c.with_hasher-2.result.entries) (sym c.with_hasher.ensures.empty) (subst (IsNumbered []) (sym c.with_hasher-2.ensures.empty) numbered_none)
