use Rattle.grove_terms.proofs.WellSorted.{trees_sorted, groves_sorted}
use Rattle.grove_terms.proofs.laws.trees_are_well_sorted.Goals as goal

pub returns : goal.returns
returns c = record { under_each = trees_sorted; grove = groves_sorted }
