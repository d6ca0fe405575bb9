use Rattle.std.proofs.lemmas.Fmt.{decimal_injective, decimal_is_IsNumeral}
use Rattle.text_parts.proofs.Numbers.{IsNumberText-decimal, decimal_from_IsNumberText}
use Rattle.text_parts.proofs.number.number_has_one_text.Goals as goal

pub returns-clause-one : goal.returns-clause-one
returns-clause-one c = decimal_injective

pub returns-clause-spelled : goal.returns-clause-spelled
returns-clause-spelled c = IsNumberText-decimal

pub returns-clause-valued : goal.returns-clause-valued
returns-clause-valued c = λ n small. (decimal_is_IsNumeral n small).1

pub returns-clause-each : goal.returns-clause-each
returns-clause-each c = decimal_from_IsNumberText
