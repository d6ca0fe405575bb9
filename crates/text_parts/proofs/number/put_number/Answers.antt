use Rattle.std.proofs.Common.{rules}
use Rattle.std.proofs.lemmas.Fmt.{decimal_digit}
use Rattle.text_parts.proofs.number.put_number.Goals as goal

pub returns-then-number-lt10-clause-written : goal.returns-then-number-lt10-clause-written
returns-then-number-lt10-clause-written c = rw (decimal_digit c.args.number c.if-number-lt10.true) (search rules)
