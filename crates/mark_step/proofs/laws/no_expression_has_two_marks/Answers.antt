use Rattle.std.proofs.Common.{sym, ◌∙◌}
use Rattle.mark_step.proofs.RowLemmas.{rows_give}
use Rattle.mark_step.proofs.laws.no_expression_has_two_marks.Goals as goal

pub returns-clause-one : goal.returns-clause-one
returns-clause-one c e js m n a b = rows_give e js m a ∙ sym (rows_give e js n b)
