use Rattle.mark_step.proofs.RowLemmas.{functions_follow_rows, rows_demand, rows_give, rows_count}
use Rattle.mark_step.proofs.laws.each_expression_follows_one_row.Goals as goal

pub returns-clause-some : goal.returns-clause-some
returns-clause-some c = functions_follow_rows

pub returns-clause-demanded : goal.returns-clause-demanded
returns-clause-demanded c = rows_demand

pub returns-clause-settled : goal.returns-clause-settled
returns-clause-settled c = rows_give

pub returns-clause-counted : goal.returns-clause-counted
returns-clause-counted c = rows_count
