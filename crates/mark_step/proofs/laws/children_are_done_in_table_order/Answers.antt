use Rattle.mark_step.proofs.NodeLemmas.{types_before-done, types_before-skipped, types_before-all, AreNumbers-set}
use Rattle.mark_step.proofs.laws.children_are_done_in_table_order.Goals as goal

pub returns-clause-done : goal.returns-clause-done
returns-clause-done c = types_before-done

pub returns-clause-skipped : goal.returns-clause-skipped
returns-clause-skipped c = types_before-skipped

pub returns-clause-all : goal.returns-clause-all
returns-clause-all c = types_before-all

pub returns-clause-numbers : goal.returns-clause-numbers
returns-clause-numbers c types done index t number = AreNumbers-set types t number done index
