use Rattle.mark_step.proofs.NodeLemmas.{demanded_at-kept, IsDemandOf-kept, expression_at-kept, types_before-kept, types_done-kept, IsNodeOf-kept}
use Rattle.mark_step.proofs.laws.numbers_keep_their_meaning.Goals as goal

pub returns-clause-demand : goal.returns-clause-demand
returns-clause-demand c types grown ctxs more d kept stay = demanded_at-kept types grown kept ctxs more stay d

pub returns-clause-demand_numbers : goal.returns-clause-demand_numbers
returns-clause-demand_numbers c types grown ctxs more d kept stay = IsDemandOf-kept types grown kept ctxs more stay d

pub returns-clause-expression : goal.returns-clause-expression
returns-clause-expression c types grown ctxs more node kept stay = expression_at-kept types grown kept ctxs more stay node

pub returns-clause-before : goal.returns-clause-before
returns-clause-before c types grown ctxs more node index kept stay = types_before-kept types grown kept ctxs more stay node index

pub returns-clause-done : goal.returns-clause-done
returns-clause-done c types grown ctxs more node kept stay = types_done-kept types grown kept ctxs more stay node

pub returns-clause-node_numbers : goal.returns-clause-node_numbers
returns-clause-node_numbers c types grown ctxs more node kept stay = IsNodeOf-kept types grown kept ctxs more stay node
