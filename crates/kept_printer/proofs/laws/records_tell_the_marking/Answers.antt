use Rattle.kept_printer.proofs.Told.{marking_told}
use Rattle.kept_printer.proofs.laws.records_tell_the_marking.Goals as goal

pub returns : goal.returns
returns c = marking_told
