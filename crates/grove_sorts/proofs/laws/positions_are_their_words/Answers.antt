use Rattle.grove_sorts.proofs.Texts.{position_text_injective, Lacks-position_text}
use Rattle.grove_sorts.proofs.laws.positions_are_their_words.Goals as goal

pub returns-clause-one : goal.returns-clause-one
returns-clause-one c = position_text_injective

pub returns-clause-unbroken : goal.returns-clause-unbroken
returns-clause-unbroken c = Lacks-position_text
