use Rattle.plain_typing.proofs.Typings.{each_clean, typed_is_clean}
use Rattle.plain_typing.proofs.laws.typed_trees_have_no_marks.Goals as goal

pub returns-clause-whole : goal.returns-clause-whole
returns-clause-whole c = typed_is_clean

pub returns-clause-children : goal.returns-clause-children
returns-clause-children c = λ v f p d depth sorted wants. each_clean v f p d sorted wants depth
