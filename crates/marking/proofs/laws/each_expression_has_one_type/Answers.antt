use Rattle.marking.proofs.Judged.{child_has, child_has_only}
use Rattle.marking.proofs.laws.each_expression_has_one_type.Goals as goal

pub returns : goal.returns
returns c = record { some = child_has; one = child_has_only }
