use Rattle.std.proofs.Common.{rules}
use Rattle.judging.proofs.Filling.{none_given}
use Rattle.judging.proofs.opening.with_given.Goals as goal

pub returns-in_default : goal.returns-in_default
returns-in_default c = none_given c.args.row c.args.index c.args.given (search rules) (search rules) (search rules) (search rules) (search rules)
