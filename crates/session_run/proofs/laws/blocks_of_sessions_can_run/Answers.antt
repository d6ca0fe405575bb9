use Rattle.session_run.proofs.OfSessions.{all_placed, block_can_run, few_numbers}
use Rattle.session_run.proofs.laws.blocks_of_sessions_can_run.Goals as goal

pub returns-clause-authors : goal.returns-clause-authors
returns-clause-authors c = λ session h. (all_placed session h, h.authors_differ)

pub returns-clause-lines : goal.returns-clause-lines
returns-clause-lines c = block_can_run

pub returns-clause-numbers : goal.returns-clause-numbers
returns-clause-numbers c = few_numbers
