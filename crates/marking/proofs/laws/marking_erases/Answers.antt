use Rattle.marking.proofs.Erased.{marked_erased}
use Rattle.marking.proofs.laws.marking_erases.Goals as goal

pub returns : goal.returns
returns c = marked_erased
