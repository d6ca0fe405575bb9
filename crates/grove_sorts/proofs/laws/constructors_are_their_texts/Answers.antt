use Rattle.grove_sorts.proofs.Texts.{ctor_text_injective, Lacks-ctor_text}
use Rattle.grove_sorts.proofs.laws.constructors_are_their_texts.Goals as goal

pub returns-clause-one : goal.returns-clause-one
returns-clause-one c = ctor_text_injective

pub returns-clause-unbroken : goal.returns-clause-unbroken
returns-clause-unbroken c = Lacks-ctor_text
