use Rattle.grove_names.proofs.Texts.{name_text_injective, name_text_from_parts}
use Rattle.grove_names.proofs.text.name_has_one_text.Goals as goal

pub returns-clause-one : goal.returns-clause-one
returns-clause-one c = name_text_injective

pub returns-clause-each : goal.returns-clause-each
returns-clause-each c = name_text_from_parts
