use Rattle.plain_typing.proofs.Typings.{has_one_type}
use Rattle.plain_typing.proofs.laws.a_type_is_the_one_of_the_marking.Goals as goal

pub returns : goal.returns
returns c = has_one_type
